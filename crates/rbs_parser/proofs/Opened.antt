-- A rule that is opened is read by its body, and one that isn't by its next token alone.
use Rattle.std.proofs.Common.{◌≡◌, ℕ, suc, ◌-◌, ◌<◌, if◌then◌else◌, Bool, true, false, List, Result, Err, refl, sym, ◌∙◌, ap, subst, arith}
use Rattle.rbs_lexer.specs.Tokens.{Token}
use Rattle.rbs_grammar.specs.Rules.{Rule, Value, start}
use Rattle.rbs_grammar.specs.Grammar.{Outcome, begins, syntax, deep, read}
use Rattle.rbs_grammar.specs.Levels.{rooms, read_in}
use Rattle.rbs_grammar.specs.Declarations.{body}
use Rattle.rbs_grammar.proofs.Rooms.{open_declaration, open_type, open_function, no_declaration, no_type, no_function}
use Rattle.rbs_parser.specs.Reading.{Reads}
use Rattle.rbs_parser.specs.declared.refusal.Refusal.{Refusal}
use Rattle.rbs_parser.specs.declared.refusal.Refusal.TheVariants as refusal

-- an outcome that is the other is read as that one
pub same_outcome : {X A : Type 0} (view : X → A) (o p : Outcome A) → o ≡ p → (r : Result X Refusal) (new : List Token) → Reads view p r new → Reads view o r new
same_outcome view o p e r new h = subst (λ q. Reads view q r new) (sym e) h

pub refused : (X : Type 0) (b c : Bool) (r : Refusal) (ts : List Token) → b ≡ c → r ≡ if b then refusal.TooDeep else refusal.Syntax
    → Reads {X = X} (λ x. x) (Err (if c then deep else syntax, ts)) (Err r) ts
refused X b c r ts e h = subst (λ q. Reads {X = X} (λ x. x) (Err (if c then deep else syntax, ts)) (Err q) ts) (sym (h ∙ ap (λ d. if d then refusal.TooDeep else refusal.Syntax) e)) (go c)
  where
    go : (d : Bool) → Reads {X = X} (λ x. x) (Err (if d then deep else syntax, ts)) (Err (if d then refusal.TooDeep else refusal.Syntax)) ts
    go true = refl
    go false = refl

pub type_refused : (n m : ℕ) (ts : List Token) (b : Bool) (r : Refusal) → n ≡ 0 → b ≡ begins (start Rule.ty) ts → r ≡ if b then refusal.TooDeep else refusal.Syntax
    → Reads {X = Value Rule.ty} (λ x. x) (read_in (rooms n m) Rule.ty ts) (Err r) ts
type_refused n m ts b r z e h = same_outcome (λ x. x) _ _ (ap (λ k. read_in (rooms k m) Rule.ty ts) z ∙ no_type m ts) (Err r) ts (refused _ b (begins (start Rule.ty) ts) r ts e h)

pub function_refused : (n m : ℕ) (ts : List Token) (b : Bool) (r : Refusal) → m ≡ 0 → b ≡ begins (start Rule.function) ts → r ≡ if b then refusal.TooDeep else refusal.Syntax
    → Reads {X = Value Rule.function} (λ x. x) (read_in (rooms n m) Rule.function ts) (Err r) ts
function_refused n m ts b r z e h = same_outcome (λ x. x) _ _ (ap (λ k. read_in (rooms n k) Rule.function ts) z ∙ no_function n ts) (Err r) ts (refused _ b (begins (start Rule.function) ts) r ts e h)

pub type_opened : (n m : ℕ) (ts : List Token) (r : Result (Value Rule.ty) Refusal) (new : List Token) → 0 < n
    → Reads (λ x. x) (read (read_in (rooms (n - 1) m)) (body Rule.ty) ts) r new → Reads (λ x. x) (read_in (rooms n m) Rule.ty ts) r new
type_opened n m ts r new some h =
    let e : n ≡ suc (n - 1) = omega arith in
    same_outcome (λ x. x) _ _ (ap (λ k. read_in (rooms k m) Rule.ty ts) e ∙ open_type (n - 1) m ts) r new h

pub function_opened : (n m : ℕ) (ts : List Token) (r : Result (Value Rule.function) Refusal) (new : List Token) → 0 < m
    → Reads (λ x. x) (read (read_in (rooms n (m - 1))) (body Rule.function) ts) r new → Reads (λ x. x) (read_in (rooms n m) Rule.function ts) r new
function_opened n m ts r new some h =
    let e : m ≡ suc (m - 1) = omega arith in
    same_outcome (λ x. x) _ _ (ap (λ k. read_in (rooms n k) Rule.function ts) e ∙ open_function n (m - 1) ts) r new h

pub declaration_refused : (n m : ℕ) (ts : List Token) (b : Bool) (r : Refusal) → n ≡ 0 → b ≡ begins (start Rule.declaration) ts → r ≡ if b then refusal.TooDeep else refusal.Syntax
    → Reads {X = Value Rule.declaration} (λ x. x) (read_in (rooms n m) Rule.declaration ts) (Err r) ts
declaration_refused n m ts b r z e h = same_outcome (λ x. x) _ _ (ap (λ k. read_in (rooms k m) Rule.declaration ts) z ∙ no_declaration m ts) (Err r) ts (refused _ b (begins (start Rule.declaration) ts) r ts e h)

pub declaration_opened : (n m : ℕ) (ts : List Token) (r : Result (Value Rule.declaration) Refusal) (new : List Token) → 0 < n
    → Reads (λ x. x) (read (read_in (rooms (n - 1) m)) (body Rule.declaration) ts) r new → Reads (λ x. x) (read_in (rooms n m) Rule.declaration ts) r new
declaration_opened n m ts r new some h =
    let e : n ≡ suc (n - 1) = omega arith in
    same_outcome (λ x. x) _ _ (ap (λ k. read_in (rooms k m) Rule.declaration ts) e ∙ open_declaration (n - 1) m ts) r new h
