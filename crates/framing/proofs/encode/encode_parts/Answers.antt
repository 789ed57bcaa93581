use mathlib.Core.Path.{refl}
use mathlib.Core.List.{◌++◌}
use Rattle.laws.proofs.Passed.{passed}
use Rattle.framing.proofs.Frame.{encodes}
use Rattle.framing.proofs.encode.encode_parts.Goals as goal

pub returns-in_err-frame_at : goal.returns-in_err-frame_at
returns-in_err-frame_at c = let a = c.args in
    rw (passed _ _ c.from_residual.ensures.1) (encodes a.asyncmap (a.head.now ++ (a.part.now ++ a.rest.now)) c.in_err-frame_at.ensures refl refl)

pub returns : goal.returns
returns c = let a = c.args in
    encodes a.asyncmap (a.head.now ++ (a.part.now ++ a.rest.now)) c.in_ok-frame_at.ensures refl refl
