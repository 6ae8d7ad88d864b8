-- The LinkIds that are live, by the rows that have them, and one step of the search for one that is free.
use Rattle.std.specs.Prelude.{None, Option, Some}
use Prim.Native.Nat.{ℕ, suc, ◌+◌, ◌-◌, ◌<◌}
use native.Mathlib.Omega.{arith}
use mathlib.Core.Path.{◌≡◌, refl, sym, ap, ◌∙◌}
use mathlib.Core.Bool.{Bool, true, false}
use mathlib.Core.List.{List}
use lib.IntN.{ℤ}
use Rattle.octets.specs.declared.LinkId.{LinkId}
use Rattle.octets.specs.Numbers.{same_integer, next_link_id}
use Rattle.octets.specs.Lists.{any, filter_map}
use Rattle.octets.proofs.Lists.{any_ext}
use Rattle.octets.proofs.Loops.{any_filter_map}
use Rattle.octets.proofs.Places.{filter_map_filter_map, filter_map_ext}
use Rattle.board.specs.declared.Row.{Row}
use Rattle.board.specs.declared.finding.Key.TheVariants as key
use Rattle.board.specs.Entries.{Connection, WithUser, WithPartner, Entry, Party, taken, party_of, calls, link_id_in, link_id_of, is_link_id, has_link_id}
use Rattle.board.specs.Code.Keys.{matches_key}
use Rattle.board.specs.LinkIds.{live, unless_live, free_link_id}
use Rattle.board.proofs.Searches.{any_link_id}
use Rattle.octets.specs.Tests.{has, bind_option}

is_link_id_lem : (z : ℤ) (o : Option ℤ) → has (same_integer z) o ≡ is_link_id z o
is_link_id_lem z None = refl
is_link_id_lem z (Some y) = refl

-- the LinkIds of the calls are those that the entries have
live_entries : (es : List Entry) → live (calls es) ≡ filter_map (λ (e : Entry). link_id_of e.connection) es
live_entries es =
    filter_map_filter_map (λ (p : Party). link_id_in p.call.link) (λ (e : Entry). party_of e.leg e.connection) es
    ∙ filter_map_ext (λ (e : Entry). bind_option (λ (p : Party). link_id_in p.call.link) (party_of e.leg e.connection)) (λ (e : Entry). link_id_of e.connection) es (λ e. go e.leg e.connection)
  where
    go : (n : ℕ) (c : Connection) → bind_option (λ (p : Party). link_id_in p.call.link) (party_of n c) ≡ link_id_of c
    go n (WithUser c) = refl
    go n (WithPartner p a) = refl

pub live_any : (z : ℤ) (es : List Entry) → any (same_integer z) (live (calls es)) ≡ any (has_link_id z) es
live_any z es =
    ap (any (same_integer z)) (live_entries es)
    ∙ any_filter_map (λ (e : Entry). link_id_of e.connection) (same_integer z) es
    ∙ any_ext (λ (e : Entry). has (same_integer z) (link_id_of e.connection)) (has_link_id z) es (λ e. is_link_id_lem z (link_id_of e.connection))

-- a LinkId is live where some row has it
live_rows : (l : LinkId) (rows : List Row) → any (same_integer l.0) (live (calls (taken rows))) ≡ any (matches_key (key.LinkId l)) rows
live_rows l rows = live_any l.0 (taken rows) ∙ any_link_id l rows

-- ---- one step of the search, at value k of n

module _ (l : LinkId) (rows : List Row) (n k : ℕ) (h : k < n) where
  pub free_here : any (matches_key (key.LinkId l)) rows ≡ false → Some l.0 ≡ free_link_id (n - k) l.0 (live (calls (taken rows)))
  free_here e =
      let s : n - k ≡ suc (n - (k + 1)) = omega arith in
      let v : any (same_integer l.0) (live (calls (taken rows))) ≡ false = live_rows l rows ∙ e in
      sym
      (ap (λ (m : ℕ). free_link_id m l.0 (live (calls (taken rows)))) s
      ∙ ap (λ (b : Bool). unless_live b l.0 (free_link_id (n - (k + 1)) (next_link_id l.0) (live (calls (taken rows))))) v)

  pub free_next : any (matches_key (key.LinkId l)) rows ≡ true →
      free_link_id (n - (k + 1)) (next_link_id l.0) (live (calls (taken rows))) ≡ free_link_id (n - k) l.0 (live (calls (taken rows)))
  free_next e =
      let s : n - k ≡ suc (n - (k + 1)) = omega arith in
      let v : any (same_integer l.0) (live (calls (taken rows))) ≡ true =
      live_rows l rows ∙ e in
      sym
      (ap (λ (m : ℕ). free_link_id m l.0 (live (calls (taken rows)))) s
      ∙ ap (λ (b : Bool). unless_live b l.0 (free_link_id (n - (k + 1)) (next_link_id l.0) (live (calls (taken rows))))) v)
