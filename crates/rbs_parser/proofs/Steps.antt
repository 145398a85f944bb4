-- The turns of the loop that reads the parameters of a list.
use Rattle.std.proofs.Common.{◌≡◌, ℕ, ◌<◌, true, List, length, Result, Ok, Err, sym, ◌∙◌, ap, subst}
use Rattle.rbs_lexer.specs.Tokens.{Token}
use Rattle.rbs_grammar.specs.declared.parts.Parameters.{Parameters}
use Rattle.rbs_grammar.specs.declared.stage.Stage.{Stage}
use Rattle.rbs_grammar.specs.Grammar.{begins, then_read, Outcome, read}
use Rattle.rbs_grammar.specs.Levels.{rooms, read_in}
use Rattle.rbs_grammar.specs.Functions.{params_lead, next_param}
use Rattle.rbs_parser.specs.declared.refusal.Refusal.{Refusal}
use Rattle.rbs_parser.specs.declared.refusal.Refusal.TheVariants as refusal
use Rattle.rbs_parser.specs.declared.functions.Parameter.{Parameter}
use Rattle.rbs_parser.specs.Reading.{Reads}
use Rattle.rbs_parser.specs.Parameters.{given_as, ReadsParameter, added, both_of}
use Rattle.rbs_parser.proofs.Opened.{same_outcome}
use Rattle.rbs_parser.proofs.Adding.{with_params, params_step, params_smaller}

pub both_held : {A B : Type 0} (a h : A) (r : Result B Refusal) (b : B) → Ok (h, b) ≡ both_of a r → h ≡ a
both_held {A = A} {B = B} a h (Ok c) b e = let p : ◌≡◌ {A = A × B} (h, b) (a, c) = cc in ap (λ q. q.0) p
both_held a h (Err x) b e = cc

pub both_found : {A B : Type 0} (a h : A) (r : Result B Refusal) (b : B) → Ok (h, b) ≡ both_of a r → r ≡ Ok b
both_found {A = A} {B = B} a h (Ok c) b e = let p : ◌≡◌ {A = A × B} (h, b) (a, c) = cc in ap (λ q. Ok q.1) (sym p)
both_found a h (Err x) b e = cc

pub both_refused : {A B : Type 0} (a : A) (r : Result B Refusal) (x : Refusal) → Err x ≡ both_of a r → r ≡ Err x
both_refused a (Ok c) x e = cc
both_refused a (Err y) x e = cc

-- What refuses the first of two refuses both.
pub refused_first : {X Y A B : Type 0} (v : X → A) (w : Y → B) (o : Outcome A) (k : A → List Token → Outcome B) (x : Refusal) (new : List Token) → Reads v o (Err x) new → Reads w (then_read o k) (Err x) new
refused_first v w o k refusal.NoMemory new h = tt {0}
refused_first v w o k refusal.Syntax new h = ap (λ q. then_read q k) h
refused_first v w o k refusal.TooDeep new h = ap (λ q. then_read q k) h

module _ (marked functions : ℕ) (all : Parameters) (s : Stage) (ts new : List Token) (found : Result (Parameter × Stage) Refusal)
    (lead : true ≡ begins (params_lead s) ts) (got : ReadsParameter marked functions (next_param s) ts found new) where
  -- A parameter is read.
  read_so : (next : Parameter) (behind : Stage) → found ≡ Ok (next, behind) → read (read_in (rooms marked functions)) (next_param s) ts ≡ Ok ((given_as next, behind), new)
  read_so next behind e = subst (λ r. ReadsParameter marked functions (next_param s) ts r new) e got

  pub turn_refused : (x : Refusal) → Err x ≡ both_of all found → Reads {X = Parameters} (λ p. p) (with_params (rooms marked functions) all s ts) (Err x) new
  turn_refused x e =
      same_outcome (λ (p : Parameters). p) _ _ (params_step (rooms marked functions) all s ts lead) (Err x) new
      (refused_first (λ (r : Parameter × Stage). (given_as r.0, r.1)) (λ (p : Parameters). p) (read (read_in (rooms marked functions)) (next_param s) ts) (λ y mid. with_params (rooms marked functions) (added all y.0) y.1 mid) x new
      (subst (λ r. ReadsParameter marked functions (next_param s) ts r new) (both_refused all found x e) got))

  pub turn_taken : (held more : Parameters) (next : Parameter) (behind : Stage) → Ok (held, (next, behind)) ≡ both_of all found → more ≡ added held (given_as next)
      → with_params (rooms marked functions) all s ts ≡ with_params (rooms marked functions) more behind new
  turn_taken held more next behind e m =
      params_step (rooms marked functions) all s ts lead
      ∙ ap (λ o. then_read o (λ y mid. with_params (rooms marked functions) (added all y.0) y.1 mid)) (read_so next behind (both_found all held found (next, behind) e))
      ∙ ap (λ p. with_params (rooms marked functions) p behind new) (sym (m ∙ ap (λ p. added p (given_as next)) (both_held all held found (next, behind) e)))

  pub turn_smaller : (held : Parameters) (next : Parameter) (behind : Stage) → Ok (held, (next, behind)) ≡ both_of all found → length new < length ts
  turn_smaller held next behind e = params_smaller (rooms marked functions) s ts new (given_as next, behind) (read_so next behind (both_found all held found (next, behind) e))
