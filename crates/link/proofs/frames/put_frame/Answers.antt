use mathlib.Core.Path.{ap, ◌∙◌}
use Rattle.std.specs.Prelude.{ℕ, ◌+◌}
use Rattle.link.proofs.Sending.{rest_framed, unwrap_count}
use Rattle.link.proofs.frames.put_frame.Goals as goal

pub returns : goal.returns
returns c =
    let k = rest_framed c.args.tx.now c.args.at c.requires c.encode.ensures in
    (ap (λ (n : ℕ). c.args.at + n) (c.unwrap_or.ensures ∙ unwrap_count c.encode.result) ∙ k.0, k.1)
