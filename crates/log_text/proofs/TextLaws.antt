-- Numbers and octets as text, and texts written into a buffer. Assumes nothing.
use Prim.Native.Nat.{ℕ, zero, suc, ◌+◌, ◌*◌, ◌/◌, ◌%◌, ◌^◌, ◌≤◌, ◌<◌}
use native.Mathlib.Nat.{zero-add}
use native.Mathlib.Omega.{arith}
use mathlib.Core.Path.{◌≡◌, refl, sym, ap, ◌∙◌}
use mathlib.Core.List.{List, [], ◌∷◌, ◌++◌}
use native.Mathlib.Decide.{dec_lt}
use lib.Dec.{leb}
use lib.ListN.{length, get_or, take, length-append}
use lib.Seq.{take_all, take-suc}
use native.Mathlib.Numerals.{add-one}
use borrow.Author.Tests.{lt-ltb, le-ltb, le-leb, lt-leb}
use Rattle.std.specs.Prelude.{Option, Some, None, IfSome, IfNone}
use Rattle.std.specs.Option.{unwrap_or}
use Rattle.std.specs.Fmt as std
use Rattle.std.proofs.Math.Nat.{pow-succ'}
use Rattle.std.proofs.lemmas.Fmt.{decimal_by_steps, length-decimal-le}
use Rattle.filling.specs.Code.Putting.{HasRoom, Put}
use Rattle.filling.specs.declared.Filling.{Filling}
use Rattle.log_text.specs.Lines.{digit, decimal_in, decimal, hex_octet, hex_octets, octets_text, space, spaced, record_line, end_line}
use Rattle.log_text.specs.Writing.{Fitted}

-- ---- numbers

-- digits enough are as good as more
enough : (f g n : ℕ) → n < f → n < g → decimal_in f n ≡ decimal_in g n
unfolding decimal_in
enough zero g n p q = absurd (omega arith)
enough (suc f) zero n p q = absurd (omega arith)
enough (suc f) (suc g) n p q = go (dec_lt n 10) (enough f g (n / 10))
  where
    go : Dec (n < 10) → (n / 10 < f → n / 10 < g → decimal_in f (n / 10) ≡ decimal_in g (n / 10)) → decimal_in (suc f) n ≡ decimal_in (suc g) n
    go (yes h) more = simp (lt-ltb n 10 h)
    go (no h) more =
        let e : 10 ≤ n = omega arith in
        simp (le-ltb n 10 e, more (omega arith) (omega arith))

pub decimal_small : (n : ℕ) → n < 10 → decimal n ≡ digit n ∷ []
unfolding decimal decimal_in
decimal_small n h = simp (lt-ltb n 10 h)

pub decimal_more : (n : ℕ) → 10 ≤ n → decimal n ≡ decimal (n / 10) ++ (digit (n % 10) ∷ [])
unfolding decimal decimal_in
decimal_more n h = simp (le-ltb n 10 h) (ap (λ (l : List ℕ). l ++ (digit (n % 10) ∷ [])) (enough n (suc (n / 10)) (n / 10) (omega arith) (omega arith)))

pub length_small : (n : ℕ) → n < 10 → length (decimal n) ≡ 1
length_small n h = ap length (decimal_small n h)

pub length_more : (n : ℕ) → 10 ≤ n → length (decimal n) ≡ length (decimal (n / 10)) + 1
length_more n h = ap length (decimal_more n h) ∙ length-append (decimal (n / 10)) (digit (n % 10) ∷ [])

-- the digits that std writes of a number that 64 bits hold
pub decimal_written : (n : ℕ) → n < 2 ^ 64 → std.decimal n ≡ decimal n
decimal_written = decimal_by_steps (λ n ds. ds ≡ decimal n) (λ n h. sym (decimal_small n h)) (λ n ds h e. ap (λ (l : List ℕ). l ++ (digit (n % 10) ∷ [])) e ∙ sym (decimal_more n h))

pub decimal_short : (k n : ℕ) → 0 < k → n < 10 ^ k → n < 2 ^ 64 → length (decimal n) ≤ k
decimal_short k n p h l = rw (← decimal_written n l) (length-decimal-le k n p h l)

some_power : (k : ℕ) → 1 ≤ 10 ^ k
some_power zero = omega arith
some_power (suc k) = omega (arith, some_power k, pow-succ' 10 k)

-- a number has one digit more than the tens that can be taken out of it as factors
power_length : (k n : ℕ) → 10 ^ k ≤ n → n < 10 * 10 ^ k → length (decimal n) ≡ k + 1
power_length zero n p q = length_small n (omega (arith, q))
power_length (suc k) n p q =
    let e = pow-succ' 10 k in
    let m : 10 ≤ n = omega (arith, e, p, some_power k) in
    omega (arith, length_more n m, power_length k (n / 10) (omega (arith, e, p)) (omega (arith, e, q)))

-- by the logarithm, which 0 has not
pub digits_by_log : (n : ℕ) (r : Option ℕ) → IfNone r (n ≡ 0) → IfSome r (λ k. 10 ^ k ≤ n) → IfSome r (λ k. n < 10 * 10 ^ k)
    → unwrap_or r 0 + 1 ≡ length (decimal n)
digits_by_log n None z p q = rw z (sym (length_small 0 (omega arith)))
digits_by_log n (Some k) z p q = sym (power_length k n p q)

-- ---- octets

pub hex_append : (x y : List ℕ) → hex_octets (x ++ y) ≡ hex_octets x ++ hex_octets y
hex_append [] y = refl
hex_append (o ∷ x) y = ap (λ (l : List ℕ). hex_octet o ++ l) (hex_append x y)

pub hex_length : (x : List ℕ) → length (hex_octets x) ≡ 2 * length x
hex_length [] = refl
hex_length (o ∷ x) = omega (arith, hex_length x)

-- one octet more
pub hex_next : (s : List ℕ) (i : ℕ) → i < length s → hex_octets (take (i + 1) s) ≡ hex_octets (take i s) ++ hex_octet (get_or s i 0)
hex_next s i h = rw (add-one i, take-suc s i 0 h, hex_append (take i s) (get_or s i 0 ∷ []))

pub text_some : (s : List ℕ) → 1 ≤ length s → octets_text s ≡ hex_octets s
unfolding octets_text
text_some [] h = absurd (omega arith)
text_some (o ∷ s) h = refl

pub text_none : (s : List ℕ) → length s ≡ 0 → octets_text s ≡ 45 ∷ []
unfolding octets_text
text_none [] h = refl
text_none (o ∷ s) h = absurd (omega arith)

-- all octets
pub text_all : (s : List ℕ) (i : ℕ) → length s ≤ i → 1 ≤ length s → octets_text s ≡ hex_octets (take i s)
text_all s i l h = rw (text_some s h, take_all i s l)

-- ---- lines

pub spaced_length : (n : ℕ) → length (spaced n) ≡ length (decimal n) + 1
spaced_length n = length-append (decimal n) (space ∷ [])

pub line_length : (number kind returned : ℕ) (s : List ℕ)
    → length (record_line number kind returned s) ≡ length (decimal number) + length (decimal kind) + length (decimal returned) + 4 + length (octets_text s)
line_length number kind returned s = simp length-append (omega arith)

octets_short : (s : List ℕ) → length (octets_text s) ≤ 2 * length s + 1
octets_short [] = rw (text_none [] refl) (omega arith)
octets_short (o ∷ s) = rw (text_some (o ∷ s) (omega arith)) (omega (arith, hex_length (o ∷ s)))

-- the line of a record whose number 64 bits hold, and whose kind and number returned are octets
pub line_short : (number kind returned : ℕ) (s : List ℕ) → number < 2 ^ 64 → kind < 256 → returned < 256 → length s ≤ 128
    → length (record_line number kind returned s) ≤ 512
line_short number kind returned s h k r l = omega (
  arith,
  line_length number kind returned s,
  decimal_short 20 number (omega arith) (omega (arith, h)) h,
  decimal_short 3 kind (omega arith) (omega (arith, k)) (omega (arith, k)),
  decimal_short 3 returned (omega arith) (omega (arith, r)) (omega (arith, r)),
  octets_short s,
)

pub end_length : (legs pairs links : ℕ) → length (end_line legs pairs links) ≡ length (decimal legs) + length (decimal pairs) + length (decimal links) + 7
end_length legs pairs links = simp length-append (omega arith)

-- ---- what fits

pub none_fits : (s : List ℕ) (room : ℕ) → length s ≡ 0 → leb 1 room ≡ leb (length (octets_text s)) room
none_fits s room h = rw (text_none s h)

pub some_fit : (s : List ℕ) (room : ℕ) → 1 ≤ length s → leb (length s) (room / 2) ≡ leb (length (octets_text s)) room
some_fit s room h = rw (text_some s h) (go (dec_lt (room / 2) (length s)))
  where
    go : Dec (room / 2 < length s) → leb (length s) (room / 2) ≡ leb (length (hex_octets s)) room
    go (yes t) = lt-leb (length s) (room / 2) t ∙ sym (lt-leb (length (hex_octets s)) room (omega (arith, t, hex_length s)))
    go (no t) = le-leb (length s) (room / 2) (omega (arith, t)) ∙ sym (le-leb (length (hex_octets s)) room (omega (arith, t, hex_length s)))

-- ---- a text at the front

pub all_put : {x out : List ℕ} {f g : Filling} → (HasRoom x f → Put x f g) → f.buffer.now ≡ out → f.at ≡ 0 → length x ≤ length out → Put x f g
all_put p e z h = p (rw (e, z) (omega (arith, h)))

pub filled : {x out after : List ℕ} {n : ℕ} {f g : Filling} → f.buffer.now ≡ out → f.at ≡ 0 → length x ≤ length out → Put x f g → after ≡ g.buffer.now → n ≡ g.at → Fitted x out after (Some n)
filled {x} {out} e z h q b c =
    record {
      is = b ∙ q.is ∙ rw (e, z, le-leb (length x) (length out) h);
      count = ap Some (c ∙ q.place) ∙ rw (z, zero-add (length x), le-leb (length x) (length out) h);
      within = omega (arith, c, q.place, z, h);
    }
