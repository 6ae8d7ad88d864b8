-- The LinkIds that are live, and the next one that is free (document 01, "Serving it").
use Rattle.std.specs.Prelude.{ℕ, zero, suc, Bool, true, false, List, ℤ, None, Option, Some}
use Rattle.octets.specs.Lists.{any, filter_map}
use Rattle.octets.specs.Numbers.{same_integer, next_link_id}
use Rattle.octets.specs.declared.LinkId.{LinkId}
use Rattle.board.specs.Entries.{Party, link_id_in}

-- "live LinkIds are distinct and at most 16 (H)"
abbrev pub most_link_ids : ℕ
most_link_ids = 16

-- the term "live LinkIds": those of the calls with the served user
abbrev pub live : List Party → List ℤ
live ps = filter_map (λ (p : Party). link_id_in p.call.link) ps

abbrev pub unless_live : Bool → ℤ → Option ℤ → Option ℤ
unless_live true z later = later
unless_live false z later = Some z

-- "the first value not live from the candidate upward, 32767 followed by -32768", looked for at that many values
abbrev pub free_link_id : ℕ → ℤ → List ℤ → Option ℤ
free_link_id zero z used = None
free_link_id (suc n) z used = unless_live (any (same_integer z) used) z (free_link_id n (next_link_id z) used)

-- as the code says it
abbrev pub optional_link_id : Option ℤ → Option LinkId
optional_link_id None = None
optional_link_id (Some z) = Some (record { 0 = z })
