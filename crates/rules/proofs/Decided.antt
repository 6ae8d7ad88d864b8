-- The ways that a decision can go, each with what is known there. What holds of every decision is proved by these cases.
use Rattle.std.specs.Prelude.{None, Option, Some}
use Prim.Native.Nat.{ℕ}
use mathlib.Core.Path.{◌≡◌, refl}
use mathlib.Core.Bool.{◌&&◌, false, true, Bool, cond}
use mathlib.Core.List.{List, Memᴰ}
use lib.Dec.{leb, eqb}
use lib.ListN.{length, take}
use lib.IntN.{ℤ}
use Rattle.board.specs.declared.PartyNumber.{PartyNumber}
use Rattle.board.specs.declared.Connection.{Connection}
use Rattle.board.specs.declared.Connection.TheVariants.{WithUser, WithPartner}
use Rattle.board.specs.declared.Entry.{Entry}
use Rattle.board.specs.declared.Party.{Party}
use Rattle.board.specs.Entries.{has_leg, has_reference, calls, has_party_reference, link_id_in, has_party_link_id}
use Rattle.board.specs.LinkIds.{free_link_id, live, most_link_ids}
use Rattle.board.specs.RuleSets.{rule_set}
use Rattle.board.specs.States.{active, holdable}
use Rattle.board.specs.declared.AuxiliaryState.{AuxiliaryState}
use Rattle.board.specs.declared.CallState.{CallState}
use Rattle.board.specs.declared.Direction.{Direction}
use Rattle.board.specs.declared.Options.{Options}
use Rattle.component.specs.Reading.{reading}
use Rattle.component.specs.declared.Operation.{Operation}
use Rattle.component.specs.declared.Operation.TheVariants.{EctExecute, ExplicitEctExecute, EctLinkIdRequest}
use Rattle.component.specs.declared.Reading.{Reading}
use Rattle.component.specs.declared.Reading.TheVariants.{Ignored, Rejected, Invoked}
use Rattle.subaddresses.specs.SubaddressTransfer.{is_subaddress_transfer}
use Rattle.private_transfers.specs.EctInform.{EctInform, inform_in}
use Rattle.rules.specs.Checks.{decide, Decision, Refuse, Accept, accept, opening, named, may_progress, may_hold, release_of, service_decision, decide_open, decide_progress, decide_hold, entry_at, decide_release, decide_facility, decide_alerting, decide_answer, decide_passing, decide_leg_facility, decide_informing, decide_inform, written_by}
use Rattle.rules.specs.History.{opens_leg, ends_leg}
use Rattle.rules.specs.Replies.{Written, nothing, release_replies, answer_told, passed_on_record}
use Rattle.rules.proofs.Forms.{Writes, silent as silent_form, reply, of_transfer, of_release, of_answer, passed, informed}
use Rattle.board.specs.declared.Change.TheVariants as change
use Rattle.events.specs.Refusals.{refusal_number}
use Rattle.events.specs.EventRecords.{Answer, Request, Open, Progress, Hold, Release, Facility, LegFacility, Inform, Malformed, in_range, valid_component}
use Rattle.board.specs.Subscription.{is_subscribed}
use Rattle.rules.specs.Serving.{Service, Silent, Respond, assign, AssignLinkId, partner_for, Transfer, execute, execute_explicitly, error, new_link_id, link_id_request, perform, is_served, serve}
use Rattle.events.specs.declared.Refusal.{Refusal}
use Rattle.octets.proofs.Lists.{filter_mem, only_mem, find_mem, eqb_eq, left}
use Rattle.octets.specs.Lists.{only, filter, find, any}
use Rattle.octets.specs.declared.IntegerOctets.{IntegerOctets}
use Rattle.octets.specs.declared.LinkId.{LinkId}
use Rattle.events.specs.declared.Refusal.TheVariants as refusal
use Rattle.component.specs.declared.Answer.{Answer as ComponentAnswer}
use Rattle.component.specs.declared.Answer.TheVariants as answer
use Rattle.component.specs.declared.Reject.TheVariants.{Invoke}

-- ---- what a component comes to

module _ (opt : Options) (z : ℤ) (ps : List Party) (p : Party) where
  pub data ComesTo : Service → Type 0 where
    silent : ComesTo Silent
    respond : (a : ComponentAnswer) → ComesTo (Respond a)
    assigned : {y : ℤ} (i : IntegerOctets) → free_link_id most_link_ids z (live ps) ≡ Some y → leb most_link_ids (length (live ps)) ≡ false → ComesTo (AssignLinkId (record { 0 = y }) i)
    transferred : {q : Party} (i : IntegerOctets) → Memᴰ q ps → partner_for opt p q ≡ true → ComesTo (Transfer p q i)

  execute_is : (i : IntegerOctets) (o : Option Party) → only (filter (partner_for opt p) ps) ≡ o → ComesTo (execute p i o)
  execute_is i None e = respond _
  execute_is i (Some q) e = let m = filter_mem (partner_for opt p) ps (only_mem (filter (partner_for opt p) ps) e) in transferred i m.0 m.1

  explicit_is : (i : IntegerOctets) (l : LinkId) (o : Option Party) → find (has_party_link_id l.0) ps ≡ o → ComesTo (execute_explicitly opt p i o)
  explicit_is i l None e = respond _
  explicit_is i l (Some q) e = go (partner_for opt p q) refl
    where
      go : (b : Bool) → partner_for opt p q ≡ b → ComesTo (cond b (Transfer p q i) (error i 7))
      go true h = transferred i (find_mem (has_party_link_id l.0) ps e).0 h
      go false h = respond _

  new_is : (i : IntegerOctets) → ComesTo (new_link_id (length (live ps)) i (free_link_id most_link_ids z (live ps)))
  new_is i = go (leb most_link_ids (length (live ps))) refl (free_link_id most_link_ids z (live ps)) refl
    where
      go : (b : Bool) → leb most_link_ids (length (live ps)) ≡ b → (o : Option ℤ) → free_link_id most_link_ids z (live ps) ≡ o → ComesTo (cond b (error i 11) (assign i o))
      go true h o e = respond _
      go false h None e = respond _
      go false h (Some y) e = assigned i e h

  request_is : (i : IntegerOctets) (o : Option ℤ) → ComesTo (link_id_request z (live ps) i o)
  request_is i None = new_is i
  request_is i (Some y) = respond _

  perform_is : (i : IntegerOctets) (op : Operation) → ComesTo (perform opt z ps p i op)
  perform_is i EctExecute = execute_is i (only (filter (partner_for opt p) ps)) refl
  perform_is i (ExplicitEctExecute l) = explicit_is i l (find (has_party_link_id l.0) ps) refl
  perform_is i EctLinkIdRequest = request_is i (link_id_in p.call.link)

  pub served_is : (r : Reading) → ComesTo (serve opt z ps p r)
  unfolding serve
  served_is Ignored = silent
  served_is (Rejected r) = respond _
  served_is (Invoked i op) = go (is_served opt op) (is_subscribed opt)
    where
      go : (a b : Bool) → ComesTo (cond a (cond b (perform opt z ps p i op) (error i 0)) (Respond (answer.Rejected (Invoke i 1))))
      go true true = perform_is i op
      go true false = respond _
      go false true = respond _
      go false false = respond _

-- ---- what is decided of a request

pub refusal_not_0 : (c : Refusal) → eqb (refusal_number c) 0 ≡ false
refusal_not_0 refusal.BufferTooSmall = refl
refusal_not_0 refusal.UnsoundBoard = refl
refusal_not_0 refusal.WrongLength = refl
refusal_not_0 refusal.UnknownKind = refl
refusal_not_0 refusal.FieldOutOfRange = refl
refusal_not_0 refusal.LegOnBoard = refl
refusal_not_0 refusal.ReferenceInUse = refl
refusal_not_0 refusal.NoEmptyRow = refl
refusal_not_0 refusal.NoSuchCall = refl
refusal_not_0 refusal.NoSuchLeg = refl
refusal_not_0 refusal.NotPermitted = refl
refusal_not_0 refusal.NoSuchInvoke = refl

module _ (opt : Options) (z : ℤ) (w : Bool) (es : List Entry) where
  pub data Decided : Request → Decision → Type 0 where
    refuses : {q : Request} (c : Refusal) → Decided q (Refuse c)
    -- an event that opens and ends no leg and changes nothing, whatever it writes
    changes_nothing : {q : Request} {w : Written} → ((l : ℕ) → opens_leg l q ≡ false) → ((l : ℕ) → ends_leg es l q ≡ false) → (in_range q ≡ true → Writes q w) → Decided q (Accept None w)
    opens_leg_lem : {r l : ℕ} {d : Direction} {n : PartyNumber} → any (has_leg l) es ≡ false → any (has_reference r) es ≡ false → w ≡ false →
        Decided (Open r l d n) (opening r l d n)
    sets_state : {r : ℕ} {s : CallState} {p : Party} → named r es ≡ Some p → may_progress p.call.state s ≡ true →
        Decided (Progress r s) (accept (change.SetState (record { 0 = r }) s) nothing)
    sets_auxiliary : {r : ℕ} {a : AuxiliaryState} {p : Party} → named r es ≡ Some p → (holdable p.call.state && may_hold p.call.auxiliary a) ≡ true →
        Decided (Hold r a) (accept (change.SetAuxiliary (record { 0 = r }) a) nothing)
    releases : {l : ℕ} {e : Entry} → Memᴰ e es → has_leg l e ≡ true → Decided (Release l) (accept (release_of e.leg e.connection) (release_replies e.connection))
    assigns_link_id : {r : ℕ} {c : List ℕ} {p : Party} {y : ℤ} (i : IntegerOctets) → Memᴰ p (calls es) → free_link_id most_link_ids z (live (calls es)) ≡ Some y →
        leb most_link_ids (length (live (calls es))) ≡ false → Decided (Facility r c) (service_decision opt p (AssignLinkId (record { 0 = y }) i))
    transfers : {r : ℕ} {c : List ℕ} {p o : Party} (i : IntegerOctets) → Memᴰ p (calls es) → Memᴰ o (calls es) → partner_for opt p o ≡ true →
        Decided (Facility r c) (service_decision opt p (Transfer p o i))
    ends_alerting : {l p : ℕ} → Decided (Answer l) (accept (change.EndAlerting l) (answer_told (rule_set opt) l p))

  open_is : (r l : ℕ) (d : Direction) (n : PartyNumber) (x y v : Bool) → any (has_leg l) es ≡ x → any (has_reference r) es ≡ y → w ≡ v →
      Decided (Open r l d n) (decide_open x y v (opening r l d n))
  open_is r l d n true y v e f g = refuses _
  open_is r l d n false true v e f g = refuses _
  open_is r l d n false false true e f g = refuses _
  open_is r l d n false false false e f g = opens_leg_lem e f g

  progress_is : (r : ℕ) (s : CallState) (o : Option Party) → named r es ≡ o → Decided (Progress r s) (decide_progress r s o)
  progress_is r s None e = refuses _
  progress_is r s (Some p) e = go (may_progress p.call.state s) refl
    where
      go : (b : Bool) → may_progress p.call.state s ≡ b → Decided (Progress r s) (cond b (accept (change.SetState (record { 0 = r }) s) nothing) (Refuse refusal.NotPermitted))
      go true h = sets_state e h
      go false h = refuses _

  hold_is : (r : ℕ) (a : AuxiliaryState) (o : Option Party) → named r es ≡ o → Decided (Hold r a) (decide_hold r a o)
  hold_is r a None e = refuses _
  hold_is r a (Some p) e = go (holdable p.call.state && may_hold p.call.auxiliary a) refl
    where
      go : (b : Bool) → (holdable p.call.state && may_hold p.call.auxiliary a) ≡ b →
          Decided (Hold r a) (cond b (accept (change.SetAuxiliary (record { 0 = r }) a) nothing) (Refuse refusal.NotPermitted))
      go true h = sets_auxiliary e h
      go false h = refuses _

  release_is : (l : ℕ) (o : Option Entry) → entry_at l es ≡ o → Decided (Release l) (decide_release o)
  release_is l None e = refuses _
  release_is l (Some x) e = let m = find_mem (has_leg l) es e in releases m.0 m.1

  service_is : (r : ℕ) (c : List ℕ) (p : Party) {v : Service} → Memᴰ p (calls es) → ComesTo opt z (calls es) p v → Decided (Facility r c) (service_decision opt p v)
  service_is r c p m silent = changes_nothing (λ l. refl) (λ l. refl) (λ h. silent_form)
  service_is r c p m (respond a) = changes_nothing (λ l. refl) (λ l. refl) (λ h. reply p.call.reference.0 a)
  service_is r c p m (assigned i e h) = assigns_link_id i m e h
  service_is r c p m (transferred i n h) = transfers i m n h

  facility_is : (r : ℕ) (c : List ℕ) (o : Option Party) → named r es ≡ o → Decided (Facility r c) (decide_facility opt z es c o)
  facility_is r c None e = refuses _
  facility_is r c (Some p) e = service_is r c p (find_mem (has_party_reference r) (calls es) e).0 (served_is opt z (calls es) p (reading c))

  alerting_is : (l : ℕ) (t : Connection) → Decided (Answer l) (decide_alerting (rule_set opt) l t)
  alerting_is l (WithUser c) = refuses _
  alerting_is l (WithPartner p true) = ends_alerting
  alerting_is l (WithPartner p false) = refuses _

  answer_is : (l : ℕ) (o : Option Entry) → Decided (Answer l) (decide_answer (rule_set opt) l o)
  answer_is l None = refuses _
  answer_is l (Some e) = alerting_is l e.connection

  passing_is : (l n : ℕ) (c : List ℕ) (t : Connection) → Decided (LegFacility l n c) (decide_passing n c t)
  passing_is l n c (WithUser call) = refuses _
  passing_is l n c (WithPartner p a) = go (is_subaddress_transfer (take n c))
    where
      go : (b : Bool) → Decided (LegFacility l n c) (cond b (Accept None (passed_on_record p n c)) (Refuse refusal.NoSuchInvoke))
      go true = changes_nothing (λ m. refl) (λ m. refl) (λ h. passed p n c (eqb_eq (length c) 64 (left (eqb (length c) 64) (valid_component 64 n c) h)))
      go false = refuses _

  leg_facility_is : (l n : ℕ) (c : List ℕ) (o : Option Entry) → Decided (LegFacility l n c) (decide_leg_facility n c o)
  leg_facility_is l n c None = refuses _
  leg_facility_is l n c (Some e) = passing_is l n c e.connection

  informing_is : (r : ℕ) (c : List ℕ) (l : ℕ) (o : Option EctInform) → inform_in c ≡ o → Decided (Inform r c) (decide_informing l o)
  informing_is r c l None e = refuses _
  informing_is r c l (Some i) e = changes_nothing (λ m. refl) (λ m. refl) (λ h. informed l i refl e)

  inform_is : (r : ℕ) (c : List ℕ) (o : Option Party) → Decided (Inform r c) (decide_inform c o)
  inform_is r c None = refuses _
  inform_is r c (Some p) = go (active p.call)
    where
      go : (b : Bool) → Decided (Inform r c) (cond b (decide_informing p.leg (inform_in c)) (Refuse refusal.NotPermitted))
      go true = informing_is r c p.leg (inform_in c) refl
      go false = refuses _

  pub decided : (q : Request) → Decided q (decide opt z w es q)
  unfolding decide
  decided (Malformed c) = refuses c
  decided (Open r l d n) = open_is r l d n (any (has_leg l) es) (any (has_reference r) es) w refl refl refl
  decided (Progress r s) = progress_is r s (named r es) refl
  decided (Hold r a) = hold_is r a (named r es) refl
  decided (Release l) = release_is l (entry_at l es) refl
  decided (Facility r c) = facility_is r c (named r es) refl
  decided (Answer l) = answer_is l (entry_at l es)
  decided (LegFacility l n c) = leg_facility_is l n c (entry_at l es)
  decided (Inform r c) = inform_is r c (named r es)

  -- what it writes has one of the forms
  pub writes_by : {q : Request} {d : Decision} → in_range q ≡ true → Decided q d → Writes q (written_by d)
  writes_by k (refuses c) = silent_form
  writes_by k (changes_nothing f g h) = h k
  writes_by k (opens_leg_lem e f g) = silent_form
  writes_by k (sets_state e h) = silent_form
  writes_by k (sets_auxiliary e h) = silent_form
  writes_by k (releases {e = e} m h) = of_release e.connection
  writes_by k (assigns_link_id {p = p} {y = y} i m e h) = reply p.call.reference.0 (answer.LinkIdResult i (record { 0 = y }))
  writes_by k (transfers {p = p} {o = q} i m n h) = of_transfer (rule_set opt) p.call.reference.0 i p q
  writes_by k (ends_alerting {l = l} {p = p}) = of_answer (rule_set opt) l p

  -- whatever the request
  pub writes : (q : Request) → in_range q ≡ true → Writes q (written_by (decide opt z w es q))
  writes q k = writes_by k (decided q)
