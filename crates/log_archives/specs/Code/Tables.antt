-- Tables by kind, and the records of an archive that are read by them.
use Rattle.std.specs.Prelude.{ℕ, ◌+◌, ◌*◌, ◌≤◌, ◌<◌, ◌≡◌, true, List, [], ◌∷◌, length, get_or, slice_set, flat_map}
use Rattle.octets.specs.Lists.{all}
use Rattle.events.specs.Records.{body_length}
use Rattle.log_archives.specs.declared.unpacking.Undone.{Undone}
use Rattle.log_archives.specs.Regrouping.{listed_kinds}
use Rattle.log_archives.specs.Undoing.{listed, count_of, octets_of, start_of, every_from, undone_records}

-- how many of some kinds are each kind
pub record Counted (ks counts : List ℕ) : Type 0 where
  pub each : (k : ℕ) → k < 10 → get_or counts k 0 ≡ count_of k ks

-- where the bodies of each kind begin, and behind kind 9 where they end
pub record Started (ks starts : List ℕ) : Type 0 where
  pub each : (k : ℕ) → k ≤ 10 → get_or starts k 0 ≡ start_of k ks

-- the records of some kinds, by where the next body of each kind begins and how far its octets are apart
unfoldable pub records_by : List ℕ → List ℕ → List ℕ → List ℕ → List (List ℕ)
records_by next step os [] = []
records_by next step os (k ∷ ks) =
    (k ∷ every_from (get_or next k 0) (get_or step k 0) (body_length k) os) ∷ records_by (slice_set next k (get_or next k 0 + 1)) step os ks

-- the records still to come
abbrev pub records_in : Undone → List (List ℕ)
records_in u = records_by u.next u.step u.bodies.now u.kinds.now

-- records one behind the other
abbrev pub joined : List (List ℕ) → List ℕ
joined rs = flat_map (λ (r : List ℕ). r) rs

-- the kinds are listed, and the octets of each record lie in the bodies
pub record InReach (u : Undone) : Type 0 where
  pub kinds : all listed u.kinds.now ≡ true
  pub places : length u.next ≡ 11
  pub few : (k : ℕ) → k < 10 → get_or u.step k 0 ≤ 65540
  pub within : (k : ℕ) → k < 10 → (get_or u.next k 0 + count_of k u.kinds.now) + get_or u.step k 0 * body_length k ≤ length u.bodies.now + get_or u.step k 0

-- all records of an archive are still to come, whose bodies are as long as its kinds say
pub record Begun (ks os : List ℕ) (u : Undone) : Type 0 where
  pub kinds : u.kinds.now ≡ ks
  pub bodies : u.bodies.now ≡ os
  pub agrees : length os ≡ octets_of listed_kinds ks
  pub records : records_in u ≡ undone_records ks os
  pub in_reach : InReach u

-- the first of the records still to come was read
pub record FirstRead (before : Undone) (r : List ℕ) (after : Undone) : Type 0 where
  pub records : records_in before ≡ r ∷ records_in after
  pub in_reach : InReach after
  pub one_less : length after.kinds.now + 1 ≡ length before.kinds.now
