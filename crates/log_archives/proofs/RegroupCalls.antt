-- Packing and unpacking undo each other, and every octet is kept, over the contracts of `pack` and `unpack`.
use Prim.{tt}
use Prim.Native.Nat.{ℕ, ◌<◌, ◌≤◌}
use native.Mathlib.Omega.{arith}
use mathlib.Core.Path.{◌≡◌, ◌∙◌, ap, ap₂, refl, sym, subst}
use mathlib.Core.List.{List}
use lib.Seq.{take_at}
use lib.ListN.{length, take, drop}
use base.Fml.{GName}
use contract.Lifetimes.{Lfts}
use Rattle.std.specs.Prelude.{Result, Ok, Err}
use Rattle.octets.proofs.Lent.{lent, lent_shared}
use Rattle.octets.specs.Numbers.{AreOctets}
use Rattle.events.specs.Refusals.{refusal_number}
use Rattle.events.proofs.RefusalNumbers.{refusal_not_zero}
use Rattle.log_archives.specs.declared.BadRecord.{BadRecord}
use Rattle.log_archives.specs.declared.NotRegrouped.{NotRegrouped}
use Rattle.log_archives.specs.declared.NotRegrouped.TheVariants.{Unfit, CutShort, UnknownKind, BodiesDisagree, Bad, TargetTooSmall}
use Rattle.log_archives.specs.Contract.{Regroups, not_regrouped_number, answer_number, answer_count}
use Rattle.log_archives.specs.Judging.{packed, unpacked}
use Rattle.log_archives.specs.RegroupCalls.{RegroupCall, regroup_number, regroup_written, GivesBack, OctetsKept}
use Rattle.log_archives.proofs.ThereAndBack.{packed_unpacked, unpacked_packed, packed_kept}
use Rattle.log_archives.proofs.FieldsAlone.{only_fields}
use Rattle.log_archives.proofs.packing.pack.Reads as pack-contract
use Rattle.log_archives.proofs.unpacking.unpack.Reads as unpack-contract

-- ---- the premises: calls that met their contracts

pub record PackMet (c : RegroupCall) : Type 0 where
  pub lifetimes : Lfts 2
  pub given_at : ℕ × ℕ
  pub target_at : (ℕ × ℕ) × GName
  pub met : pack-contract.Post lifetimes (lent_shared given_at c.given, (lent target_at c.before, tt)) c.returned (lent_shared given_at c.given, (lent target_at c.after, tt))

pub record UnpackMet (c : RegroupCall) : Type 0 where
  pub lifetimes : Lfts 2
  pub given_at : ℕ × ℕ
  pub target_at : (ℕ × ℕ) × GName
  pub met : unpack-contract.Post lifetimes (lent_shared given_at c.given, (lent target_at c.before, tt)) c.returned (lent_shared given_at c.given, (lent target_at c.after, tt))

-- ---- what an answer says of the outcome

not_0 : (e : NotRegrouped) → 0 < not_regrouped_number e
not_0 Unfit = omega arith
not_0 CutShort = omega arith
not_0 (UnknownKind n) = omega arith
not_0 BodiesDisagree = omega arith
not_0 (Bad b) = refusal_not_zero b.refusal
not_0 TargetTooSmall = omega arith

module _ {before after : List ℕ} {r : Result ℕ NotRegrouped} where
  outcome_is : (o : Result (List ℕ) NotRegrouped) → Regroups o before r after → answer_number r ≡ 0 → o ≡ Ok (take (answer_count r) after)
  outcome_is (Ok os) m z = ap Ok (sym (ap₂ take (ap answer_count m.answer) m.target ∙ take_at os (drop (length os) before) (length os) refl))
  outcome_is (Err e) m z = absurd (omega (arith, not_0 e, z, ap answer_number m.answer))

  gives : (o : Result (List ℕ) NotRegrouped) {os : List ℕ} → Regroups o before r after → o ≡ Ok os → (answer_number r ≡ 0) × (take (answer_count r) after ≡ os)
  gives o {os} m e =
      let w : Regroups (Ok os) before r after = subst (λ (x : Result (List ℕ) NotRegrouped). Regroups x before r after) e m in
      (ap answer_number w.answer, ap₂ take (ap answer_count w.answer) w.target ∙ take_at os (drop (length os) before) (length os) refl)

  refused_as : (o : Result (List ℕ) NotRegrouped) {e : NotRegrouped} → Regroups o before r after → r ≡ Err e → o ≡ Err e
  refused_as (Ok os) m h = absurd (let a = m.answer in let z : ◌≡◌ {A = ℕ} 0 1 = cc in omega arith)
  refused_as (Err f) m h = let a = m.answer in cc

-- ---- the theorems

module _ {c d : RegroupCall} where
  -- "Undoing it gives the log back", into a target large enough
  pub restored : PackMet c → UnpackMet d → regroup_number c ≡ 0 → d.given ≡ regroup_written c → length c.given ≤ length d.before → GivesBack c d
  restored m n z g room =
      let p = outcome_is (packed c.given (length c.before)) m.met z in
      let u = packed_unpacked c.given (regroup_written c) (length c.before) (length d.before) p room in
      let r = gives (unpacked d.given (length d.before)) n.met (ap (λ (a : List ℕ). unpacked a (length d.before)) g ∙ u) in
      record { returned = r.0; same = r.1 }

  -- "and rearranging an undone archive gives the archive"; octets are below 256, as their type has it
  pub rearranged : UnpackMet c → PackMet d → AreOctets c.given → regroup_number c ≡ 0 → d.given ≡ regroup_written c → length c.given ≤ length d.before → GivesBack c d
  rearranged m n o z g room =
      let u = outcome_is (unpacked c.given (length c.before)) m.met z in
      let p = unpacked_packed c.given (regroup_written c) (length c.before) (length d.before) o u room in
      let r = gives (packed d.given (length d.before)) n.met (ap (λ (a : List ℕ). packed a (length d.before)) g ∙ p) in
      record { returned = r.0; same = r.1 }

-- "Every octet of the log is kept, only moved."
pub octets_kept : {c : RegroupCall} → PackMet c → regroup_number c ≡ 0 → OctetsKept c
octets_kept {c} m z = packed_kept c.given (regroup_written c) (length c.before) (outcome_is (packed c.given (length c.before)) m.met z)

-- "then 5 for a bad field in any record"
pub fields_alone : {c : RegroupCall} → UnpackMet c → (b : BadRecord) → c.returned ≡ Err (Bad b) → regroup_number c ≡ 5
fields_alone {c} m b e =
    let bad = refused_as (unpacked c.given (length c.before)) m.met e in
    ap answer_number e ∙ ap refusal_number (only_fields c.given (length c.before) b bad)
