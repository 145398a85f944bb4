use Rattle.std.proofs.Common.{◌∷◌, ◌++◌, [], drop, Some, refl, sym, ◌∙◌, ap, subst}
use Rattle.std.proofs.lemmas.List.{append-nil}
use Rattle.rbs_lexer.specs.Lexing.{NoToken, token, gap}
use Rattle.rbs_lexer.proofs.Cutting.{Walked, begins, run_cut, none_found, refused_found, goes_on, nearer, short_lexed, only_short, one_lexed}
use Rattle.rbs_lexer.proofs.lexer.lex.Goals as goal

pub loop-walk-init : goal.loop-walk-init
loop-walk-init c = subst (λ w. Walked c.args.text.now w c.new-found.result) (sym c.begin-walk.ensures) (subst (Walked c.args.text.now _) (sym c.new-found.ensures) (begins c.args.text.now c.utf8.text))

pub range-run-requires-clause-end_boundary : goal.range-run-requires-clause-end_boundary
range-run-requires-clause-end_boundary c = run_cut c.args.text.now c.range_from-rest.result.now c.utf8.text c.loop-walk.walk c.loop-walk.found c.loop-walk.invariant c.front.result c.range_from-rest.ensures.value c.front.ensures c.in-Some.next c.in-Some.is

pub loop-walk-smaller-in-Token : goal.loop-walk-smaller-in-Token
loop-walk-smaller-in-Token c = nearer c.args.text.now c.range_from-rest.result.now c.utf8.text c.loop-walk.walk c.loop-walk.found c.loop-walk.invariant c.front.result c.range_from-rest.ensures.value c.front.ensures
    c.range-run.result.now c.past_token-walk.result c.in-Some.next (token c.in-Token.kind c.range-run.result.now) c.in-Some.is c.in-Token.is c.range-run.ensures.value refl c.past_token-walk.ensures

pub loop-walk-preserved-in-Token : goal.loop-walk-preserved-in-Token
loop-walk-preserved-in-Token c = goes_on c.args.text.now c.range_from-rest.result.now c.utf8.text c.loop-walk.walk c.loop-walk.found c.loop-walk.invariant c.front.result c.range_from-rest.ensures.value c.front.ensures
    c.range-run.result.now c.past_token-walk.result c.in-Some.next (token c.in-Token.kind c.range-run.result.now) c.in-Some.is c.in-Token.is c.range-run.ensures.value refl c.past_token-walk.ensures
    c.push.new.self (c.in_ok-push-in-Token.ensures.ok ∙ ap (λ t. c.loop-walk.found ++ t ∷ []) c.token.ensures)

pub loop-walk-smaller : goal.loop-walk-smaller
loop-walk-smaller c = nearer c.args.text.now c.range_from-rest.result.now c.utf8.text c.loop-walk.walk c.loop-walk.found c.loop-walk.invariant c.front.result c.range_from-rest.ensures.value c.front.ensures
    c.range-run.result.now c.past_gap-walk.result c.in-Some.next (gap c.range-run.result.now) c.in-Some.is c.in-Skipped.is c.range-run.ensures.value refl c.past_gap-walk.ensures

pub loop-walk-preserved : goal.loop-walk-preserved
loop-walk-preserved c = goes_on c.args.text.now c.range_from-rest.result.now c.utf8.text c.loop-walk.walk c.loop-walk.found c.loop-walk.invariant c.front.result c.range_from-rest.ensures.value c.front.ensures
    c.range-run.result.now c.past_gap-walk.result c.in-Some.next (gap c.range-run.result.now) c.in-Some.is c.in-Skipped.is c.range-run.ensures.value refl c.past_gap-walk.ensures
    c.loop-walk.found (sym (append-nil c.loop-walk.found))

-- ---- where nothing is found

nothing : (c : goal.After-first_span) → NoToken c.loop-walk.walk.place (drop c.loop-walk.walk.at c.args.text.now)
nothing c = none_found c.args.text.now c.range_from-rest.result.now c.utf8.text c.loop-walk.walk c.loop-walk.found c.loop-walk.invariant c.front.result c.range_from-rest.ensures.value c.front.ensures c.in_default.is

pub returns-in_default-clause-answers : goal.returns-in_default-clause-answers
returns-in_default-clause-answers c = short_lexed c.args.text.now c.range_from-rest.result.now c.loop-walk.walk c.loop-walk.found c.loop-walk.invariant (nothing c) c.loop-walk-test.true
    c.range_from-rest.ensures.value _ _ refl (ap Some c.first_span.ensures)

pub returns-in_default-clause-one : goal.returns-in_default-clause-one
returns-in_default-clause-one c = only_short c.args.text.now c.range_from-rest.result.now c.loop-walk.walk c.loop-walk.found c.loop-walk.invariant (nothing c) c.loop-walk-test.true
    c.range_from-rest.ensures.value _ _ refl (ap Some c.first_span.ensures)

-- ---- where what is found is refused

refused : (c : goal.After-first_span-in-Refused) → NoToken c.loop-walk.walk.place (drop c.loop-walk.walk.at c.args.text.now)
refused c = refused_found c.args.text.now c.range_from-rest.result.now c.utf8.text c.loop-walk.walk c.loop-walk.found c.loop-walk.invariant c.front.result c.range_from-rest.ensures.value c.front.ensures c.in-Some.next c.in-Some.is c.in-Refused.is

pub returns-in-Refused-clause-answers : goal.returns-in-Refused-clause-answers
returns-in-Refused-clause-answers c = short_lexed c.args.text.now c.range_from-rest.result.now c.loop-walk.walk c.loop-walk.found c.loop-walk.invariant (refused c) c.loop-walk-test.true
    c.range_from-rest.ensures.value _ _ refl (ap Some c.first_span-in-Refused.ensures)

pub returns-in-Refused-clause-one : goal.returns-in-Refused-clause-one
returns-in-Refused-clause-one c = only_short c.args.text.now c.range_from-rest.result.now c.loop-walk.walk c.loop-walk.found c.loop-walk.invariant (refused c) c.loop-walk-test.true
    c.range_from-rest.ensures.value _ _ refl (ap Some c.first_span-in-Refused.ensures)

-- ---- at the end

pub returns-clause-one : goal.returns-clause-one
returns-clause-one c = one_lexed c.args.text.now c.loop-walk.walk c.loop-walk.found c.loop-walk.invariant c.loop-walk-test.false
