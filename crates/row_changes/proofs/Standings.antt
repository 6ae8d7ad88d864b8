-- A row that a change does not concern stays as it is. Assumes nothing.
use Prim.Native.Nat.{ℕ}
use mathlib.Core.Path.{◌≡◌, refl, ap, ◌∙◌}
use mathlib.Core.Bool.{false, true, ◌||◌}
use lib.Dec.{eqb}
use Rattle.octets.specs.declared.CallReference.{CallReference}
use Rattle.octets.proofs.Lists.{or_false, eqb_sym}
use Rattle.board.specs.declared.Call.{Call}
use Rattle.board.specs.declared.Standing.{Standing}
use Rattle.board.specs.declared.Standing.TheVariants.{Empty, Served, Joined}
use Rattle.board.specs.declared.Row.{Row}
use Rattle.board.specs.declared.Change.{Change}
use Rattle.board.specs.declared.Change.TheVariants.{SetState, SetAuxiliary, SetLinkId, Join, EndAlerting, Release, ReleasePair}
use Rattle.board.specs.Lookup.{is_call_of}
use Rattle.board.specs.Changes.{map_standing, changed_call, with_state, with_auxiliary, with_link_id, joined, alerting_ended, row_after}
use Rattle.row_changes.specs.Code.Calls.{with_standing}
use Rattle.row_changes.specs.Code.Concerns.{concerns}

standing_stays : (f : ℕ → Standing → Standing) (row : Row) → f row.leg row.standing ≡ row.standing → map_standing f row ≡ row
standing_stays f row e = ap (λ (s : Standing). with_standing s row) e

call_stays : (r : CallReference) (f : Call → Call) (n : ℕ) (s : Standing) → is_call_of r.0 s ≡ false → changed_call r f n s ≡ s
call_stays r f n Empty e = refl
call_stays r f n (Served c) e = rw e
call_stays r f n (Joined p a) e = refl

join_stays : (a b n : ℕ) (s : Standing) → (eqb n a || eqb n b) ≡ false → joined a b n s ≡ s
join_stays a b n Empty e = refl
join_stays a b n (Served c) e = let k = or_false (eqb n a) (eqb n b) e in rw (eqb_sym a n ∙ k.0, eqb_sym b n ∙ k.1)
join_stays a b n (Joined p x) e = refl

alerting_stays : (l n : ℕ) (s : Standing) → eqb n l ≡ false → alerting_ended l n s ≡ s
alerting_stays l n Empty e = refl
alerting_stays l n (Served c) e = refl
alerting_stays l n (Joined p false) e = refl
alerting_stays l n (Joined p true) e = rw (eqb_sym l n ∙ e)

pub untouched : (c : Change) (row : Row) → concerns c row ≡ false → row_after c row ≡ row
unfolding row_after
untouched (SetState r s) row e = standing_stays (changed_call r (with_state s)) row (call_stays r (with_state s) row.leg row.standing e)
untouched (SetAuxiliary r a) row e = standing_stays (changed_call r (with_auxiliary a)) row (call_stays r (with_auxiliary a) row.leg row.standing e)
untouched (SetLinkId r l) row e = standing_stays (changed_call r (with_link_id l)) row (call_stays r (with_link_id l) row.leg row.standing e)
untouched (Join a b) row e = standing_stays (joined a b) row (join_stays a b row.leg row.standing e)
untouched (EndAlerting l) row e = standing_stays (alerting_ended l) row (alerting_stays l row.leg row.standing e)
untouched (Release l) row e = rw e
untouched (ReleasePair l p) row e = rw e
