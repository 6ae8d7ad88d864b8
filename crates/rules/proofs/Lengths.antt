-- How many octets the records of an event have.
use Prim.Native.Nat.{◌+◌, ◌-◌, ◌≤◌, ℕ, zero-le}
use native.Mathlib.Omega.{arith}
use mathlib.Core.Path.{◌≡◌, refl, ap, sym, ◌∙◌}
use mathlib.Core.Bool.{◌&&◌, true, false, Bool, cond}
use mathlib.Core.List.{◌++◌, ◌∷◌, List, [], append_assoc}
use lib.Dec.{eqb, leb}
use lib.ListN.{length, take, length-take, length-append, replicate, length-replicate}
use Rattle.octets.proofs.Lists.{eqb_eq, left}
use Rattle.octets.specs.Lists.{all}
use Rattle.board.specs.declared.RuleSet.{RuleSet}
use Rattle.board.specs.declared.RuleSet.TheVariants.{European, American}
use Rattle.board.specs.Soundness.{valid_digits}
use Rattle.component.proofs.Length.{answer_length}
use Rattle.private_transfers.specs.declared.Indication.{Indication}
use Rattle.private_transfers.specs.declared.Indication.TheVariants.{Alerting, Active}
use Rattle.private_transfers.specs.EctInform.{Number, NotSent, Restricted, Given, EctInform}
use Rattle.component.specs.Answers.{answer_octets}
use Rattle.component.specs.declared.Answer.{Answer}
use Rattle.rules.specs.Replies.{facility, notify, transferred_active, transferred_alerting, mark_only, record_octets, typed, typed_tell, untyped_tell, Reply, Tell, PassOn, TellNumber, told, ReplyRecord, octets, drops, Written, nothing, replied, passed_on_record, number_as_received, inform_record, inform_told}

pub reply_length : (r : ℕ) (a : Answer) → length (record_octets (Reply r a)) ≡ 36
reply_length r a =
    let q = length-append (answer_octets a) (replicate (32 - length (answer_octets a)) 0) in
    let w = length-replicate {A = ℕ} (32 - length (answer_octets a)) 0 in
    let h = answer_length a in
    omega arith

pub no_octets : octets [] ≡ []
unfolding octets
no_octets = refl

pub one_length : (r : ReplyRecord) → length (octets (r ∷ [])) ≡ length (record_octets r)
unfolding octets
one_length r = let e = length-append (record_octets r) [] in omega arith

drops_length : (a b : ℕ) (rest : List ReplyRecord) → length (octets (drops a b ++ rest)) ≡ 6 + length (octets rest)
unfolding octets
drops_length a b rest = omega arith

pub both_octets : (xs ys : List ReplyRecord) → octets (xs ++ ys) ≡ octets xs ++ octets ys
unfolding octets
both_octets [] ys = refl
both_octets (x ∷ xs) ys = ap (λ (os : List ℕ). record_octets x ++ os) (both_octets xs ys) ∙ sym (append_assoc (record_octets x) (octets xs) (octets ys))

pub two_octets : (r s : ReplyRecord) → octets (r ∷ s ∷ []) ≡ octets (r ∷ []) ++ octets (s ∷ [])
two_octets r s = both_octets (r ∷ []) (s ∷ [])

-- a Tell of either kind
pub tell_length : (l m d : ℕ) (n : TellNumber) (s : ℕ) → length n.digits ≡ 15 → length (record_octets (Tell l m d n s)) ≤ 26
tell_length l m d n s h = go (typed n)
  where
    go : (b : Bool) → length (cond b (typed_tell l m d n s) (untyped_tell l m d n s)) ≤ 26
    go true = omega (arith, h)
    go false = omega (arith, h)

told_length : (r : RuleSet) (l : ℕ) (a b : Bool) (n : TellNumber) → length n.digits ≡ 15 → length (octets (told r l a b n)) ≤ 26
unfolding octets
told_length r l false false n h = omega (arith, tell_length l facility transferred_active n 1 h, one_length (Tell l facility transferred_active n 1))
told_length r l false true n h = omega (arith, one_length (Tell l facility transferred_alerting (mark_only 0) 1))
told_length European l true b n h = omega (arith, tell_length l notify transferred_active n 0 h, one_length (Tell l notify transferred_active n 0))
told_length American l true b n h = zero-le

pub tells_length : (r : RuleSet) (l m : ℕ) (a b : Bool) (n k : TellNumber) → length n.digits ≡ 15 → length k.digits ≡ 15 → length (octets (told r l a b n ++ told r m b a k)) ≤ 52
tells_length r l m a b n k h j =
    let e = both_octets (told r l a b n) (told r m b a k) in
    let f = length-append (octets (told r l a b n)) (octets (told r m b a k)) in
    omega (arith, ap length e, f, told_length r l a b n h, told_length r m b a k j)

pub transfer_length : (r : ℕ) (x : Answer) (a b : ℕ) (rest : List ReplyRecord) → length (octets rest) ≤ 52 → length (octets (Reply r x ∷ (drops a b ++ rest))) ≤ 94
unfolding octets
transfer_length r x a b rest h =
    let e = length-append (record_octets (Reply r x)) (octets (drops a b ++ rest)) in
    omega (arith, reply_length r x, drops_length a b rest, h)

-- the digits of a valid number
pub fifteen : (n : ℕ) (ds : List ℕ) → valid_digits n ds ≡ true → length ds ≡ 15
fifteen n ds h =
    eqb_eq (length ds) 15
    (left (eqb (length ds) 15) (leb n 15)
    (left (eqb (length ds) 15 && leb n 15) _
    (left (eqb (length ds) 15 && leb n 15 && all (λ (d : ℕ). leb 48 d && leb d 57) (take n ds)) _ h)))

-- what is written fits, where each number has 15 digits
pub record Short (w : Written) : Type 0 where
  pub fits : (numbers : ℕ → TellNumber) → ((l : ℕ) → length (numbers l).digits ≡ 15) → length (octets (w numbers)) ≤ 94

pub nothing_short : Short nothing
unfolding octets
nothing_short = record { fits = λ numbers k. zero-le }

pub reply_short : (r : ℕ) (a : Answer) → Short (replied r a)
reply_short r a = record { fits = λ numbers k. omega (arith, one_length (Reply r a), reply_length r a) }

pub pass_length : (l n : ℕ) (c : List ℕ) → length c ≡ 64 → length (octets (PassOn l n c ∷ [])) ≡ 70
pass_length l n c h = omega (arith, one_length (PassOn l n c), h)

-- a component passed on, in 64 octets
pub passed_short : (p n : ℕ) (c : List ℕ) → length c ≡ 64 → Short (passed_on_record p n c)
passed_short p n c k = record { fits = λ numbers h. omega (arith, pass_length p n c k) }

-- one Tell, with a number of 15 digits
pub tell_short : (l m d : ℕ) (number : (ℕ → TellNumber) → TellNumber) (s : ℕ) → ((numbers : ℕ → TellNumber) → ((l : ℕ) → length (numbers l).digits ≡ 15) → length (number numbers).digits ≡ 15) →
    Short (λ numbers. Tell l m d (number numbers) s ∷ [])
tell_short l m d number s h = record { fits = λ numbers k. omega (arith, tell_length l m d (number numbers) s (h numbers k), one_length (Tell l m d (number numbers) s)) }

pub received_length : (n : Number) → length (number_as_received n).digits ≡ 15
received_length NotSent = refl
received_length Restricted = refl
received_length (Given ds) = omega (arith, length-take 15 (ds ++ replicate 15 0), length-append ds (replicate 15 0))

-- what a private exchange says of a call; no number of a row is told
pub inform_short : (l : ℕ) (i : EctInform) → Short (inform_told l i)
inform_short l i = record { fits = λ numbers k. told i.indication (number_as_received i.number) (received_length i.number) }
  where
    told : (x : Indication) (n : TellNumber) → length n.digits ≡ 15 → length (octets (inform_record l x n ∷ [])) ≤ 94
    told Alerting n h = omega (arith, one_length (inform_record l Alerting n))
    told Active n h = omega (arith, tell_length l facility transferred_active n 1 h, one_length (inform_record l Active n))
