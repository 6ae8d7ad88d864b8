use Rattle.std.proofs.Common.{rules, tests}
use Rattle.std.proofs.lemmas.Iterator.{YieldsList-from_slice}
use Rattle.std.proofs.lemmas.Iterator.Consumers.{YieldsList-from_copied, YieldsList-from_filter_map, YieldsList-from_filter}
use mathlib.Core.Path.{◌∙◌, ap}
use Rattle.octets.specs.Lists.{only}
use Rattle.board.specs.Entries.{row_party}
use Rattle.rules.specs.Serving.{partner_for}
use Rattle.serving.proofs.PairingLaws.{kept_calls, only_nowhere, only_first}
use Rattle.serving.proofs.pairing.only_partner.Goals as goal

pub returns-in_err-first : goal.returns-in_err-first
returns-in_err-first c =
    let q = partner_for c.args.board.now.options c.args.named in
    c.from_residual.ensures ∙ only_nowhere _ _ c.next.ensures.steps c.in_err-first.was
    (YieldsList-from_filter _ q (YieldsList-from_filter_map _ row_party (YieldsList-from_copied (YieldsList-from_slice c.args.board.now.rows cc)) c.filter_map.ensures.closure (λ x r f k. search (rules, tests)))
    c.filter-pairing.ensures.closure (λ x b f k. search (rules, tests)))
    ∙ ap only (kept_calls q c.args.board.now.rows)

pub returns : goal.returns
returns c =
    let q = partner_for c.args.board.now.options c.args.named in
    c.then_some.ensures ∙ only_first _ _ _ _ c.next.ensures.steps c.in_ok-first.was c.next-2.ensures.steps _ c.is_none.ensures
    (YieldsList-from_filter _ q (YieldsList-from_filter_map _ row_party (YieldsList-from_copied (YieldsList-from_slice c.args.board.now.rows cc)) c.filter_map.ensures.closure (λ x r f k. search (rules, tests)))
    c.filter-pairing.ensures.closure (λ x b f k. search (rules, tests)))
    ∙ ap only (kept_calls q c.args.board.now.rows)
