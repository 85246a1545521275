-- `put_file` meets its contract: the file's answer is that of its first 653 bytes.
use native.Mathlib.Nat.{sub-zero}
use Rattle.checkrule.proofs.Files.{first_enough}
use Rattle.checkrule.proofs.put_file.Goals as goal

pub returns : goal.returns
returns c = record { by_index = λ whole e. rw (← first_enough whole, e) (rw (c.check.ensures, sub-zero) at c.put_checked.ensures.put); upper_bound = c.put_checked.ensures.upper_bound }
