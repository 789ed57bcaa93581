use Rattle.std.proofs.Common.{refl}
use Rattle.negotiation.proofs.CredentialLaws.{placed}
use Rattle.negotiation.proofs.credentials.Credentials.with.Goals as goal

pub returns : goal.returns
returns c = let a = c.args in
    rw (c.place-2.ensures, c.place.ensures, placed a.username.now a.password.now c.requires) refl
