-- What the functions of the walk answer.
use Rattle.std.specs.Prelude.{ℕ, ◌≡◌, ◌<◌, ◌≤◌, ◌-◌, ◌+◌, zero, suc, Bool, true, false, cond, List, [], ◌∷◌, ◌++◌, map, flat_map, length, take, drop, eqb, replicate, is_ok, Result, Ok, Err, None, Some}
use Rattle.std.proofs.Common.{refl, sym, ap, ◌∙◌, arith, add-one}
use Rattle.std.proofs.lemmas.List.{take-take, drop_all}
use Rattle.std.proofs.lemmas.Option.{slice_get_past}
use Rattle.std.specs.Bool.{then_some}
use native.Mathlib.Nat.{le-suc_iff}
use mathlib.Core.Path.{subst, subst⁻¹}
use mathlib.Core.Logic.{◌⊎◌, inl, inr}
use mathlib.Core.List.{Memᴰ}
use mathlib.Core.List.Memᴰ
use borrow.Author.Tests.{ne_eqb}
use Rattle.board.specs.declared.Board.{Board}
use Rattle.events.specs.declared.Refusal.{Refusal}
use Rattle.events.proofs.RefusalNumbers.{refusal_not_zero}
use Rattle.ect.specs.Contract.{answer_number, Steps}
use Rattle.ect.specs.declared.Stepped.{Stepped}
use Rattle.short_histories.specs.declared.Found.TheVariants.{Numbers, Left}
use Rattle.short_histories.specs.Sequences.{event_numbers, of_length, up_to}
use Rattle.short_histories.specs.Histories.{record_numbered, accepts_number, after_number, first_board, histories, listed, history_at}
use Rattle.short_histories.specs.Code.Finding.{FoundAt, At, Beyond, found_in, or_in, under}
use Rattle.short_histories.specs.Code.Walking.{after_accepted, long, beginning, begun_from, shorter, found_of, in_front}
use Rattle.short_histories.proofs.Finding.{found_nil, found_append, found_map, found_at, found_beyond, got_at}
use Rattle.short_histories.proofs.Sequences.{has_length}

is_accepted : (a : Result ℕ Refusal) → is_ok a ≡ eqb (answer_number a) 0
is_accepted (Ok n) = refl
is_accepted (Err c) = sym (ne_eqb _ _ (λ (e : answer_number (Err c) ≡ 0). omega (arith, refusal_not_zero c)))

then_is : {A : Type 0} (x : A) (t : Bool) → then_some t x ≡ cond t (Some x) None
then_is x true = refl
then_is x false = refl

pub answered : (b : Board) (n : ℕ) {event : List ℕ} (r : Stepped) (left : List ℕ) → event ≡ record_numbered n → Steps b event (replicate 128 0) r left →
    then_some (is_ok r.answer) r.board ≡ after_accepted b n
unfolding accepts_number after_number
answered b n r left e h = rw (then_is r.board, is_accepted r.answer, h.answer, h.board, e) refl

-- ---- the walk

pub none_at_first : (b : Board) {k p : ℕ} → k ≡ 0 → p ≡ 0 → Numbers (0 ∷ 0 ∷ 0 ∷ 0 ∷ []) ≡ found_of (found_in p (long k b))
unfolding found_in of_length
none_at_first b e f = rw (e, f) refl

pub none_passed : (b : Board) {k : ℕ} (p : ℕ) → k ≡ 0 → (p ≡ 0 → ⊥) → Left (p - 1) ≡ found_of (found_in p (long k b))
unfolding found_in of_length
none_passed b zero e h = absurd (h refl)
none_passed b (suc p) e h = let f : suc p - 1 ≡ p = omega arith in rw (e, f) refl

pub begun_at_first : (b : Board) (k p : ℕ) → (k ≡ 0 → ⊥) → found_in p (begun_from (k - 1) b 0) ≡ found_in p (long k b)
unfolding of_length begun_from
begun_at_first b zero p h = absurd (h refl)
begun_at_first b (suc k) p h = let e : suc k - 1 ≡ k = omega arith in rw e refl

next_number : (f : ℕ → List (List ℕ)) (n : ℕ) → n < 6 → flat_map f (drop n event_numbers) ≡ f n ++ flat_map f (drop (suc n) event_numbers)
next_number f zero h = refl
next_number f (suc zero) h = refl
next_number f (suc (suc zero)) h = refl
next_number f (suc (suc (suc zero))) h = refl
next_number f (suc (suc (suc (suc zero)))) h = refl
next_number f (suc (suc (suc (suc (suc zero))))) h = refl
next_number f (suc (suc (suc (suc (suc (suc n)))))) h = absurd (omega arith)

next_begun : (b : Board) (k p n : ℕ) → n < 6 → found_in p (begun_from k b n) ≡ or_in (found_in p (beginning k b n)) (begun_from k b (n + 1))
unfolding begun_from
next_begun b k p n h = rw (add-one, next_number (beginning k b) n h) (found_append p (beginning k b n) (flat_map (beginning k b) (drop (suc n) event_numbers)))

none_begun : (b : Board) (k p n : ℕ) → 6 ≤ n → found_in p (begun_from k b n) ≡ Beyond p
unfolding begun_from
none_begun b k p n h = let e : drop n event_numbers ≡ [] = drop_all n event_numbers h in rw e (found_nil p)

left_beyond : (x : FoundAt) {p : ℕ} → Left p ≡ found_of x → x ≡ Beyond p
left_beyond (At ns) e = cc
left_beyond (Beyond q) e = let f : q ≡ _ = cc in ap Beyond f

numbers_stay : (x : FoundAt) (l : List (List ℕ)) {ns : List ℕ} → Numbers ns ≡ found_of x → Numbers ns ≡ found_of (or_in x l)
numbers_stay (At ms) l e = e
numbers_stay (Beyond q) l e = cc

pub passed : (b : Board) (k p n : ℕ) {q : ℕ} {x : FoundAt} → n < 6 → found_in p (begun_from k b n) ≡ x → Left q ≡ found_of (found_in p (beginning k b n)) → found_in q (begun_from k b (n + 1)) ≡ x
passed b k p n h e f = let g = left_beyond (found_in p (beginning k b n)) f in sym (rw g at (next_begun b k p n h)) ∙ e

pub found : (b : Board) (k p n : ℕ) {ns : List ℕ} {x : FoundAt} → n < 6 → found_in p (begun_from k b n) ≡ x → Numbers ns ≡ found_of (found_in p (beginning k b n)) → Numbers ns ≡ found_of x
found b k p n h e f = numbers_stay (found_in p (beginning k b n)) (begun_from k b (n + 1)) f ∙ ap found_of (sym (next_begun b k p n h) ∙ e)

pub all_passed : (b : Board) (k p n : ℕ) {x : FoundAt} → 6 ≤ n → found_in p (begun_from k b n) ≡ x → Left p ≡ found_of x
all_passed b k p n h e = ap found_of (sym (none_begun b k p n h) ∙ e)

take_in_front : (n : ℕ) (ns : List ℕ) → take 4 ((n ∷ ns) ++ replicate 4 0) ≡ n ∷ take 3 (take 4 (ns ++ replicate 4 0))
take_in_front n ns = ap (λ (l : List ℕ). n ∷ l) (sym (take-take 3 4 (ns ++ replicate 4 0) (omega arith)))

found_under : (n : ℕ) (x : FoundAt) → found_of (under n x) ≡ in_front n (found_of x)
found_under n (At ns) = ap (λ (l : List ℕ). Numbers l) (take_in_front n ns)
found_under n (Beyond p) = refl

pub begins : (b : Board) (n k p : ℕ) {c : Board} → Some c ≡ after_accepted b n → found_of (found_in p (beginning k b n)) ≡ in_front n (found_of (found_in p (long k c)))
begins b n k p {c} e = go (accepts_number b n) e
  where
    go : (t : Bool) → Some c ≡ cond t (Some (after_number b n)) None → found_of (found_in p (cond t (map (λ (ns : List ℕ). n ∷ ns) (long k (after_number b n))) [])) ≡ in_front n (found_of (found_in p (long k c)))
    go true e = let d : c ≡ after_number b n = cc in rw (d, found_map n p (long k (after_number b n))) (found_under n (found_in p (long k (after_number b n))))
    go false e = cc

pub none_begins : (b : Board) (n k p : ℕ) → None ≡ after_accepted b n → Left p ≡ found_of (found_in p (beginning k b n))
none_begins b n k p e = go (accepts_number b n) e
  where
    go : (t : Bool) → None ≡ cond t (Some (after_number b n)) None → Left p ≡ found_of (found_in p (cond t (map (λ (ns : List ℕ). n ∷ ns) (long k (after_number b n))) []))
    go true e = cc
    go false e = rw (found_nil p) refl

-- ---- one length after_number the other

pub shorter_none : (b : Board) (p : ℕ) → found_in p (shorter 0 b) ≡ Beyond p
unfolding shorter
shorter_none b p = found_nil p

next_length : (b : Board) (p k : ℕ) → found_in p (up_to accepts_number after_number k b) ≡ or_in (found_in p (shorter k b)) (long k b)
unfolding shorter up_to
next_length b p zero = rw (found_nil p) refl
next_length b p (suc k) = found_append p (up_to accepts_number after_number k b) (long (suc k) b)

pub longer_passed : (b : Board) (p q k : ℕ) {r : ℕ} → found_in p (shorter k b) ≡ Beyond q → Left r ≡ found_of (found_in q (long k b)) → found_in p (shorter (k + 1) b) ≡ Beyond r
unfolding shorter
longer_passed b p q k e f = rw add-one (rw e at (next_length b p k) ∙ left_beyond (found_in q (long k b)) f)

-- what the shorter ones have at a place, the list with longer ones has there too
stays : (b : Board) (p k m : ℕ) {ns : List ℕ} → k ≤ m → found_in p (up_to accepts_number after_number k b) ≡ At ns → found_in p (up_to accepts_number after_number m b) ≡ At ns
unfolding up_to
stays b p k zero {ns} h e = let d : k ≡ 0 = omega arith in subst (λ (j : ℕ). found_in p (up_to accepts_number after_number j b) ≡ At ns) d e
stays b p k (suc m) {ns} h e = go (le-suc_iff.0 h) (λ l. stays b p k m l e)
  where
    go : (k ≤ m) ⊎ (k ≡ suc m) → (k ≤ m → found_in p (up_to accepts_number after_number m b) ≡ At ns) → found_in p (up_to accepts_number after_number m b ++ long (suc m) b) ≡ At ns
    go (inl l) f = rw (found_append p (up_to accepts_number after_number m b) (long (suc m) b), f l) refl
    go (inr d) f = subst (λ (j : ℕ). found_in p (up_to accepts_number after_number j b) ≡ At ns) d e

long_at : (b : Board) (p k : ℕ) {ns : List ℕ} → found_in p (long k b) ≡ At ns → length ns ≡ k
long_at b p k {ns} e =
    let r = found_at p (long k b) e in
    has_length accepts_number after_number k b (subst⁻¹ (λ (l : List (List ℕ)). Memᴰ ns l) r.2 (Memᴰ.append_right r.0 (Memᴰ.head refl)))

numbers_at : (x : FoundAt) {xs : List ℕ} → Numbers xs ≡ found_of x → (ns : List ℕ) × (x ≡ At ns) × (xs ≡ take 4 (ns ++ replicate 4 0))
numbers_at (At ns) e = (ns, refl, cc)
numbers_at (Beyond p) e = cc

padded : (ns : List ℕ) → length ns ≤ 4 → take 4 (ns ++ replicate 4 0) ≡ ns ++ replicate (4 - length ns) 0
padded [] h = refl
padded (a ∷ []) h = refl
padded (a ∷ b ∷ []) h = refl
padded (a ∷ b ∷ c ∷ []) h = refl
padded (a ∷ b ∷ c ∷ d ∷ []) h = refl
padded (a ∷ b ∷ c ∷ d ∷ e ∷ ns) h = absurd (omega arith)

listed_of : (k : ℕ) (ns : List ℕ) → length ns ≡ k → k ≤ 4 → record { returned = 0; events = k; numbers = take 4 (ns ++ replicate 4 0) } ≡ listed (Some ns)
listed_of k ns e h = rw (← e, padded ns (omega (arith, e))) refl

pub listed_at : (b : Board) (p q k : ℕ) {xs : List ℕ} → b ≡ first_board → k ≤ 4 → found_in p (shorter k b) ≡ Beyond q → Numbers xs ≡ found_of (found_in q (long k b)) →
    record { returned = 0; events = k; numbers = xs } ≡ history_at p
unfolding history_at histories
listed_at b p q k d h e f =
    let r = numbers_at (found_in q (long k b)) f in
    let g : found_in p (up_to accepts_number after_number k b) ≡ At r.0 = rw (next_length b p k, e) r.1 in
    rw (← d, r.2, got_at p (up_to accepts_number after_number 4 b) (stays b p k 4 h g)) (listed_of k r.0 (long_at b q k r.1) h)

pub listed_past : (b : Board) (p q k : ℕ) → b ≡ first_board → k ≡ 5 → found_in p (shorter k b) ≡ Beyond q → record { returned = 15; events = 0; numbers = replicate 4 0 } ≡ history_at p
unfolding history_at histories shorter
listed_past b p q k d h e = let f : found_in p (shorter 5 b) ≡ Beyond q = rw h at e in rw (← d, slice_get_past (up_to accepts_number after_number 4 b) p (found_beyond p (up_to accepts_number after_number 4 b) f).0) refl
