-- With which octet answers begin. Assumes nothing.
use Prim.Native.Nat.{ℕ}
use mathlib.Core.Path.{◌≡◌, refl}
use lib.ListN.{get_or}
use Rattle.component.specs.declared.Reject.{Reject}
use Rattle.component.specs.declared.Reject.TheVariants.{Null, General, Invoke}
use Rattle.component.specs.declared.Answer.{Answer}
use Rattle.component.specs.declared.Answer.TheVariants as answer
use Rattle.component.specs.Answers.{reject_octets, answer_octets}

-- A2 for a result, A3 for an error, A4 for a Reject
abbrev pub answer_tag : Answer → ℕ
answer_tag (answer.Rejected r) = 0xA4
answer_tag (answer.Error i e) = 0xA3
answer_tag (answer.LinkIdNotAssigned i) = 0xA3
answer_tag (answer.Result i) = 0xA2
answer_tag (answer.LinkIdResult i l) = 0xA2

reject_tag : (r : Reject) → get_or (reject_octets r) 0 0 ≡ 0xA4
reject_tag (Null p) = refl
reject_tag (General i p) = refl
reject_tag (Invoke i p) = refl

pub answer_tag_lem : (a : Answer) → get_or (answer_octets a) 0 0 ≡ answer_tag a
unfolding answer_octets
answer_tag_lem (answer.Rejected r) = reject_tag r
answer_tag_lem (answer.Error i e) = refl
answer_tag_lem (answer.LinkIdNotAssigned i) = refl
answer_tag_lem (answer.Result i) = refl
answer_tag_lem (answer.LinkIdResult i l) = refl
