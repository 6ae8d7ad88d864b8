-- How long answers are. Assumes nothing.
use Prim.Native.Nat.{◌≤◌}
use native.Mathlib.Omega.{arith}
use mathlib.Core.List.{◌++◌}
use lib.ListN.{length}
use Rattle.octets.specs.declared.IntegerOctets.{IntegerOctets}
use Rattle.octets.specs.declared.IntegerOctets.TheVariants.{One, Two}
use Rattle.octets.specs.Numbers.{fewest}
use Rattle.component.specs.declared.Reject.{Reject}
use Rattle.component.specs.declared.Reject.TheVariants.{Null, General, Invoke}
use Rattle.component.specs.declared.Answer.{Answer}
use Rattle.component.specs.declared.Answer.TheVariants as answer
use Rattle.component.specs.Reading.{ect_object}
use Rattle.component.specs.Answers.{element, integer, reject_octets, answer_octets}

reject_length : (r : Reject) → length (reject_octets r) ≤ 32
reject_length (Null p) = omega arith
reject_length (General (One a) p) = omega arith
reject_length (General (Two a b) p) = omega arith
reject_length (Invoke (One a) p) = omega arith
reject_length (Invoke (Two a b) p) = omega arith

result_length : (i o : IntegerOctets) → length (element 0xA2 (integer i ++ element 0x30 (element 0x06 (ect_object 0x04) ++ integer o))) ≤ 32
result_length (One a) (One b) = omega arith
result_length (One a) (Two b c) = omega arith
result_length (Two a b) (One c) = omega arith
result_length (Two a b) (Two c d) = omega arith

-- an answer fits into the 32 octets of a component
pub answer_length : (a : Answer) → length (answer_octets a) ≤ 32
unfolding answer_octets
answer_length (answer.Rejected r) = reject_length r
answer_length (answer.Error (One a) e) = omega arith
answer_length (answer.Error (Two a b) e) = omega arith
answer_length (answer.LinkIdNotAssigned (One a)) = omega arith
answer_length (answer.LinkIdNotAssigned (Two a b)) = omega arith
answer_length (answer.Result (One a)) = omega arith
answer_length (answer.Result (Two a b)) = omega arith
answer_length (answer.LinkIdResult i l) = result_length i (fewest l.0)
