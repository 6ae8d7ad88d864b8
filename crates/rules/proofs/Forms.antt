-- The forms of what an event writes, by its request.
use Rattle.std.specs.Prelude.{Some}
use Prim.Native.Nat.{ℕ}
use mathlib.Core.Path.{◌≡◌}
use mathlib.Core.List.{List}
use lib.ListN.{length}
use Rattle.octets.specs.declared.IntegerOctets.{IntegerOctets}
use Rattle.component.specs.declared.Answer.{Answer}
use Rattle.board.specs.declared.Connection.{Connection}
use Rattle.board.specs.declared.Party.{Party}
use Rattle.board.specs.declared.RuleSet.{RuleSet}
use Rattle.events.specs.EventRecords.{Request, Inform}
use Rattle.private_transfers.specs.EctInform.{EctInform, inform_in}
use Rattle.rules.specs.Replies.{Written, nothing, replied, transfer_replies, release_replies, answer_told, passed_on_record, inform_told}

pub data Writes (q : Request) : Written → Type 0 where
  silent : Writes q nothing
  reply : (r : ℕ) (a : Answer) → Writes q (replied r a)
  of_transfer : (rules : RuleSet) (r : ℕ) (i : IntegerOctets) (p o : Party) → Writes q (transfer_replies rules r i p o)
  of_release : (t : Connection) → Writes q (release_replies t)
  of_answer : (rules : RuleSet) (l p : ℕ) → Writes q (answer_told rules l p)
  -- the component in the 64 octets that a record in range has
  passed : (p n : ℕ) (c : List ℕ) → length c ≡ 64 → Writes q (passed_on_record p n c)
  informed : (l : ℕ) {r : ℕ} {c : List ℕ} (i : EctInform) → q ≡ Inform r c → inform_in c ≡ Some i → Writes q (inform_told l i)
