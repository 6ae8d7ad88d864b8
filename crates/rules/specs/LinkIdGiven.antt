-- What an EctLinkIdRequest comes to while fewer than 16 LinkIds are live (document 01, "Serving it").
use Rattle.std.specs.Prelude.{ℕ, zero, suc, ◌<◌, ◌≡◌, true, false, List, ℤ, None}
use Rattle.octets.specs.declared.IntegerOctets.{IntegerOctets}
use Rattle.octets.specs.Lists.{any}
use Rattle.octets.specs.Numbers.{same_integer, next_link_id}
use Rattle.rules.specs.Serving.{AssignLinkId, link_id_request}

-- n values upward from z, "32767 followed by -32768"
abbrev pub upward : ℕ → ℤ → ℤ
upward zero z = z
upward (suc n) z = upward n (next_link_id z)

-- "the first value not live from the candidate upward"
pub record FirstNotLive (candidate : ℤ) (used : List ℤ) (z : ℤ) : Type 0 where
  pub steps : ℕ
  pub reached : upward steps candidate ≡ z
  pub not_live : any (same_integer z) used ≡ false
  pub live_before : (m : ℕ) → m < steps → any (same_integer (upward m candidate)) used ≡ true

-- a call that has no LinkId is given that value: no error, so `assign i none` does not arise
pub record LinkIdGiven (candidate : ℤ) (used : List ℤ) : Type 0 where
  pub value : ℤ
  pub first : FirstNotLive candidate used value
  pub given : (i : IntegerOctets) → link_id_request candidate used i None ≡ AssignLinkId (record { 0 = value }) i
