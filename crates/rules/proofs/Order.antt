-- What is decided of a request does not turn on the order of the entries.
use Rattle.std.specs.Prelude.{None, Option, Some}
use Prim.Native.Nat.{◌≤◌, ℕ, zero, suc}
use native.Mathlib.Nat.{le_trans}
use mathlib.Core.Path.{◌∙◌, ◌≡◌, refl, ap, ap₂}
use mathlib.Core.Bool.{Bool}
use mathlib.Core.List.{List}
use lib.ListN.{length}
use lib.IntN.{ℤ}
use Rattle.board.proofs.SoundEntries.{Sound, refs_one, lids_one, legs_one}
use Rattle.board.specs.Changes.{full}
use Rattle.board.specs.declared.Connection.{Connection}
use Rattle.board.specs.declared.Connection.TheVariants.{WithUser, WithPartner}
use Rattle.board.specs.declared.Entry.{Entry}
use Rattle.board.specs.declared.Party.{Party}
use Rattle.board.specs.Entries.{party_of, is_number, reference_of, calls, has_reference, is_link_id, link_id_of, has_link_id, has_leg, has_party_reference, link_id_in, has_party_link_id}
use Rattle.board.specs.LinkIds.{free_link_id, unless_live, live, most_link_ids}
use Rattle.board.specs.declared.Options.{Options}
use Rattle.component.specs.Reading.{reading}
use Rattle.component.specs.declared.Operation.{Operation}
use Rattle.component.specs.declared.Operation.TheVariants.{EctExecute, ExplicitEctExecute, EctLinkIdRequest}
use Rattle.component.specs.declared.Reading.{Reading}
use Rattle.component.specs.declared.Reading.TheVariants.{Ignored, Rejected, Invoked}
use Rattle.rules.specs.Checks.{named, decide, entry_at, decide_facility, service_decision, decide_open, opening, decide_progress, decide_hold, decide_release, decide_answer, decide_leg_facility, decide_inform}
use Rattle.events.specs.EventRecords.{Request, Facility, Malformed, Open, Progress, Hold, Release, Answer, LegFacility, Inform}
use Rattle.board.specs.RuleSets.{rule_set}
use Rattle.rules.specs.Serving.{link_id_request, new_link_id, perform, execute, partner_for, execute_explicitly, serve, Service, if_subscribed, if_served}
use Rattle.octets.proofs.Lists.{filter_filter_map_le, Perm, length_perm, filter_map_perm, any_perm, only_perm, filter_perm, find_perm}
use Rattle.octets.specs.Lists.{filter, any}
use Rattle.octets.specs.Numbers.{same_integer, next_link_id}
use Rattle.octets.specs.declared.IntegerOctets.{IntegerOctets}
use Rattle.octets.specs.Tests.{has}

-- ---- one call for a reference, one for a LinkId

named_is : (r n : ℕ) (t : Connection) → has (has_party_reference r) (party_of n t) ≡ is_number r (reference_of t)
named_is r n (WithUser c) = refl
named_is r n (WithPartner p a) = refl

pub calls_one : (r : ℕ) {es : List Entry} → Sound es → length (filter (has_party_reference r) (calls es)) ≤ 1
calls_one r {es} s =
    le_trans (filter_filter_map_le (has_party_reference r) (λ (e : Entry). party_of e.leg e.connection) (has_reference r) es (λ e. named_is r e.leg e.connection)) (refs_one r s)

link_is : (z : ℤ) (n : ℕ) (t : Connection) → has (has_party_link_id z) (party_of n t) ≡ is_link_id z (link_id_of t)
link_is z n (WithUser c) = refl
link_is z n (WithPartner p a) = refl

links_one : (z : ℤ) {es : List Entry} → Sound es → length (filter (has_party_link_id z) (calls es)) ≤ 1
links_one z {es} s =
    le_trans (filter_filter_map_le (has_party_link_id z) (λ (e : Entry). party_of e.leg e.connection) (has_link_id z) es (λ e. link_is z e.leg e.connection)) (lids_one z s)

-- ---- what is decided does not turn on the order

free_link_same : (u v : List ℤ) → ((z : ℤ) → any (same_integer z) u ≡ any (same_integer z) v) → (n : ℕ) (z : ℤ) → free_link_id n z u ≡ free_link_id n z v
free_link_same u v h zero z = refl
free_link_same u v h (suc n) z = ap₂ (λ (b : Bool) (o : Option ℤ). unless_live b z o) (h z) (free_link_same u v h n (next_link_id z))

request_perm : {l m : List Party} → Perm l m → (z : ℤ) (i : IntegerOctets) (o : Option ℤ) → link_id_request z (live l) i o ≡ link_id_request z (live m) i o
request_perm {l} {m} p z i None =
    ap₂ (λ (n : ℕ) (f : Option ℤ). new_link_id n i f)
    (length_perm (filter_map_perm (λ (q : Party). link_id_in q.call.link) p))
    (free_link_same (live l) (live m) (λ y. any_perm (same_integer y) (filter_map_perm (λ (q : Party). link_id_in q.call.link) p)) most_link_ids z)
request_perm p z i (Some y) = refl

perform_perm : {l m : List Entry} → Sound l → Perm l m → (opt : Options) (z : ℤ) (p : Party) (i : IntegerOctets) (o : Operation) → perform opt z (calls l) p i o ≡ perform opt z (calls m) p i o
perform_perm s h opt z p i EctExecute = ap (execute p i) (only_perm (filter_perm (partner_for opt p) (filter_map_perm (λ (e : Entry). party_of e.leg e.connection) h)))
perform_perm s h opt z p i (ExplicitEctExecute y) = ap (execute_explicitly opt p i) (find_perm (has_party_link_id y.0) (filter_map_perm (λ (e : Entry). party_of e.leg e.connection) h) (links_one y.0 s))
perform_perm s h opt z p i EctLinkIdRequest = request_perm (filter_map_perm (λ (e : Entry). party_of e.leg e.connection) h) z i (link_id_in p.call.link)

serve_perm : {l m : List Entry} → Sound l → Perm l m → (opt : Options) (z : ℤ) (p : Party) (r : Reading) → serve opt z (calls l) p r ≡ serve opt z (calls m) p r
unfolding serve
serve_perm v h opt z p Ignored = refl
serve_perm v h opt z p (Rejected i) = refl
serve_perm v h opt z p (Invoked i o) = ap (λ (s : Service). if_served opt o i (if_subscribed opt i s)) (perform_perm v h opt z p i o)

named_perm : {l m : List Entry} → Sound l → Perm l m → (r : ℕ) → named r l ≡ named r m
named_perm v h r = find_perm (has_party_reference r) (filter_map_perm (λ (e : Entry). party_of e.leg e.connection) h) (calls_one r v)

entry_perm : {l m : List Entry} → Sound l → Perm l m → (n : ℕ) → entry_at n l ≡ entry_at n m
entry_perm v h n = find_perm (has_leg n) h (legs_one n v)

service_perm : {l m : List Entry} → Sound l → Perm l m → (opt : Options) (z : ℤ) (c : List ℕ) (o : Option Party) → decide_facility opt z l c o ≡ decide_facility opt z m c o
service_perm v h opt z c None = refl
service_perm v h opt z c (Some p) = ap (service_decision opt p) (serve_perm v h opt z p (reading c))

pub decide_perm : {l m : List Entry} → Sound l → Perm l m → (opt : Options) (z : ℤ) (full : Bool) (q : Request) → decide opt z full l q ≡ decide opt z full m q
unfolding decide
decide_perm v h opt z full (Malformed c) = refl
decide_perm v h opt z full (Open r l d n) =
    ap₂ (λ (x y : Bool). decide_open x y full (opening r l d n)) (any_perm (has_leg l) h) (any_perm (has_reference r) h)
decide_perm v h opt z full (Progress r t) = ap (decide_progress r t) (named_perm v h r)
decide_perm v h opt z full (Hold r x) = ap (decide_hold r x) (named_perm v h r)
decide_perm v h opt z full (Release l) = ap decide_release (entry_perm v h l)
decide_perm {l = es} {m = fs} v h opt z full (Facility r c) = service_perm v h opt z c (named r es) ∙ ap (decide_facility opt z fs c) (named_perm v h r)
decide_perm v h opt z full (Answer l) = ap (decide_answer (rule_set opt) l) (entry_perm v h l)
decide_perm v h opt z full (LegFacility l n c) = ap (decide_leg_facility n c) (entry_perm v h l)
decide_perm v h opt z full (Inform r c) = ap (decide_inform c) (named_perm v h r)
