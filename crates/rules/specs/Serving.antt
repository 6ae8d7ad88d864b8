-- Serving what a component asks for (document 01, "Serving it"), over a list of far parties with their calls:
-- the board's for the board, the book's for the book.
use Rattle.std.specs.Prelude.{ℕ, Bool, true, false, ◌&&◌, not, cond, List, eqb, leb, ℤ, length, None, Option, Some}
use Rattle.octets.specs.declared.IntegerOctets.{IntegerOctets}
use Rattle.octets.specs.Lists.{filter, find, only}
use Rattle.component.specs.declared.Operation.{Operation}
use Rattle.component.specs.declared.Operation.TheVariants.{EctExecute, ExplicitEctExecute, EctLinkIdRequest}
use Rattle.component.specs.declared.Reject.TheVariants.{Invoke}
use Rattle.component.specs.declared.Reading.{Reading}
use Rattle.component.specs.declared.Reading.TheVariants.{Ignored, Rejected, Invoked}
use Rattle.component.specs.declared.Answer.TheVariants as answer
use Rattle.board.specs.declared.Options.{Options}
use Rattle.board.specs.declared.Party.{Party}
use Rattle.board.specs.declared.RuleSet.{RuleSet}
use Rattle.board.specs.declared.RuleSet.TheVariants.{European, American}
use Rattle.board.specs.RuleSets.{rule_set}
use Rattle.board.specs.Subscription.{is_subscribed, is_explicit_only}
use Rattle.board.specs.Entries.{link_id_in, has_party_link_id}
use Rattle.board.specs.LinkIds.{most_link_ids, free_link_id, live}
-- what a component comes to
pub use Rattle.rules.specs.declared.Service.{Service}
pub use Rattle.rules.specs.declared.Service.TheVariants.{Silent, Respond, AssignLinkId, Transfer}
use Rattle.rules.specs.Pairing.{calls_pair}

-- the general errors: 0 not subscribed, 7 the calls do not pair, 11 no LinkId is free
abbrev pub error : IntegerOctets → ℕ → Service
error i e = Respond (answer.Error i e)

-- ---- EctLinkIdRequest

-- with fewer than 16 live, 16 values always hold one that is free, so there is always a value: theorem `link_id_given`
abbrev pub assign : IntegerOctets → Option ℤ → Service
assign i None = error i 11
assign i (Some z) = AssignLinkId (record { 0 = z }) i

-- "a call that has a LinkId gets it again (H). Else, with 16 live, e = 11. Else the first value not live from the
-- candidate upward"
abbrev pub new_link_id : ℕ → IntegerOctets → Option ℤ → Service
new_link_id used i o = cond (leb most_link_ids used) (error i 11) (assign i o)

abbrev pub link_id_request : ℤ → List ℤ → IntegerOctets → Option ℤ → Service
link_id_request candidate used i None = new_link_id (length used) i (free_link_id most_link_ids candidate used)
link_id_request candidate used i (Some z) = Respond (answer.LinkIdResult i (record { 0 = z }))

-- ---- transfers

abbrev pub same_call : Party → Party → Bool
same_call p q = eqb p.call.reference.0 q.call.reference.0

-- "other served call pairs with the named one"
abbrev pub partner_for : Options → Party → Party → Bool
partner_for o named q = not (same_call named q) && calls_pair o named.call q.call

-- "EctExecute: if exactly one other served call pairs with the named one, transfer; else e = 7 (H)."
abbrev pub execute : Party → IntegerOctets → Option Party → Service
execute named i None = error i 7
execute named i (Some q) = Transfer named q i

-- "ExplicitEctExecute: LinkId not live, 06 error above; its call is the named call, or doesn't pair, e = 7; else transfer."
abbrev pub execute_explicitly : Options → Party → IntegerOctets → Option Party → Service
execute_explicitly o named i None = Respond (answer.LinkIdNotAssigned i)
execute_explicitly o named i (Some q) = cond (partner_for o named q) (Transfer named q i) (error i 7)

abbrev pub perform : Options → ℤ → List Party → Party → IntegerOctets → Operation → Service
perform o candidate ps named i EctExecute = execute named i (only (filter (partner_for o named) ps))
perform o candidate ps named i (ExplicitEctExecute l) = execute_explicitly o named i (find (has_party_link_id l.0) ps)
perform o candidate ps named i EctLinkIdRequest = link_id_request candidate (live ps) i (link_id_in named.call.link)

-- "Not subscribed: e = 0, after any Reject above and before the rest."
abbrev pub if_subscribed : Options → IntegerOctets → Service → Service
if_subscribed o i s = cond (is_subscribed o) s (error i 0)

-- "EctExecute is answered there by invoke problem 1, subscribed or not, since both calls must be named." (document 02,
-- slip 7)
abbrev pub may_name_one : RuleSet → Bool
may_name_one European = true
may_name_one American = false

-- "explicit only; EctExecute then gets invoke problem 1" (slip 9)
abbrev pub is_served : Options → Operation → Bool
is_served o EctExecute = may_name_one (rule_set o) && not (is_explicit_only o)
is_served o (ExplicitEctExecute l) = true
is_served o EctLinkIdRequest = true

abbrev pub if_served : Options → Operation → IntegerOctets → Service → Service
if_served o op i s = cond (is_served o op) s (Respond (answer.Rejected (Invoke i 1)))

unfoldable pub serve : Options → ℤ → List Party → Party → Reading → Service
serve o candidate ps named Ignored = Silent
serve o candidate ps named (Rejected r) = Respond (answer.Rejected r)
serve o candidate ps named (Invoked i op) =
    if_served o op i (if_subscribed o i (perform o candidate ps named i op))
