use Rattle.status_lines.proofs.Writing.{joined}
use Rattle.status_lines.specs.Lines.{dotted}
use Rattle.status_lines.proofs.status.put_dotted.Goals as goal

pub returns : goal.returns
unfolding dotted
returns c =
    rw c.to_be_bytes.ensures at
    (joined c.put_decimal-i.ensures.0
    (joined c.put-i.ensures
    (joined c.put_decimal-i-2.ensures.0
    (joined c.put-i-2.ensures
    (joined c.put_decimal-i-3.ensures.0
    (joined c.put-i-3.ensures
    c.put_decimal.ensures.0))))))
