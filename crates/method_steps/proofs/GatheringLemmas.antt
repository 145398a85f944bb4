-- How the methods of a step are gathered, name after name.
use Rattle.std.proofs.Common.{◌≡◌, ◌∙◌, ℕ, zero, suc, ◌+◌, ◌<◌, ◌≤◌, Bool, true, false, true≢false, List, [], ◌∷◌, Option, Some, None, if◌then◌else◌, refl, sym, ap, arith}
use Rattle.sig_rules.specs.declared.given.GivenMethod.{GivenMethod}
use Rattle.sig_rules.specs.declared.method.Method.{Method}
use Rattle.sig_rules.specs.Methods as methods
use Rattle.sig_rules.specs.Methods.{Made, at_step, first_made, of_name, or_else, same_word, with_all}
use Rattle.method_steps.specs.Gathering.{ComesOut, Gathers, Task, aim, group_of, wanted}
use Rattle.method_steps.specs.Steps.{elsewhere}
use Rattle.method_steps.proofs.StackLemmas.{same_names}
use Rattle.method_steps.proofs.AimLemmas.{at_step-declared, at_step-elsewhere, with_all_by_first}

-- ---- the declarations of a name

pub group_of-is : (gs group : List GivenMethod) → group_of gs ≡ Some group → gs ≡ group
group_of-is [] group e = absurd (cc)
group_of-is (g ∷ gs) group e = cc

group_of-cons : (gs group : List GivenMethod) → group_of gs ≡ Some group → (g : GivenMethod) × ((more : List GivenMethod) × (gs ≡ g ∷ more))
group_of-cons [] group e = absurd (cc)
group_of-cons (g ∷ gs) group e = (g, (gs, refl))

pub group_of-none : (gs : List GivenMethod) → group_of gs ≡ None → gs ≡ []
group_of-none [] e = refl
group_of-none (g ∷ gs) e = absurd (cc)

or_else-some : (o other : Option Method) → methods.is_some o ≡ true → or_else o other ≡ o
or_else-some None other there = absurd (true≢false (sym there))
or_else-some (Some m) other there = refl

-- ---- what a name is to have

pub aim-elsewhere : (task : Task) (turns : ℕ) (name : List ℕ) → of_name name task.alive ≡ [] → aim task turns name ≡ task.behind name
aim-elsewhere task turns name none = rw none refl

pub aim-declared : (task : Task) (turns : ℕ) (name : List ℕ) (g : GivenMethod) (gs : List GivenMethod) → of_name name task.alive ≡ g ∷ gs
    → aim task turns name ≡ at_step turns task.step (elsewhere task.made task.rest task.behind) (elsewhere task.made task.steps task.behind) task.alive name
aim-declared task turns name g gs declared = rw declared refl

-- ---- one name less

module _ (task : Task) (comes : ComesOut task) (before after : List ℕ → Option Method) (pending later : List ℕ → Option (List GivenMethod)) (count : ℕ) (name : List ℕ) (gs : List GivenMethod)
    (gathers : Gathers task before pending (suc count)) (here : pending name ≡ Some gs) (gone : later name ≡ None)
    (others : (other : List ℕ) → same_word name other ≡ false → later other ≡ pending other)
    (ready : (old : List ℕ) → wanted gs ≡ Some old → pending old ≡ None)
    (put : (other : List ℕ) → after other ≡ (if same_word name other then with_all task.step (elsewhere task.made task.rest before name) (elsewhere task.made task.steps before) None gs else before other)) where
  own : of_name name task.alive ≡ gs
  own = group_of-is (of_name name task.alive) gs (gathers.groups name gs here)

  -- the name that is wanted first has its method
  agrees : (turns : ℕ) → task.turns < suc turns + count → (old : List ℕ) → wanted gs ≡ Some old
      → (at_step turns task.step (elsewhere task.made task.rest task.behind) (elsewhere task.made task.steps task.behind) task.alive old ≡ elsewhere task.made task.steps before old) × (methods.is_some (elsewhere task.made task.steps before old) ≡ true)
  agrees zero enough old wants = let few : suc count ≤ task.turns = gathers.few in absurd (omega arith)
  agrees (suc turns) enough old wants = by (of_name old task.alive) refl
    where
      by : (os : List GivenMethod) → of_name old task.alive ≡ os
          → (at_step (suc turns) task.step (elsewhere task.made task.rest task.behind) (elsewhere task.made task.steps task.behind) task.alive old ≡ elsewhere task.made task.steps before old) × (methods.is_some (elsewhere task.made task.steps before old) ≡ true)
      by [] none =
          let settled : before old ≡ task.behind old = gathers.settled old (ready old wants) (suc turns) (omega arith) ∙ aim-elsewhere task (suc turns) old none in
          let same : elsewhere task.made task.steps before old ≡ elsewhere task.made task.steps task.behind old = ap (λ o. or_else o (first_made task.made task.steps old)) settled in (
            at_step-elsewhere task.step turns (elsewhere task.made task.rest task.behind) (elsewhere task.made task.steps task.behind) task.alive old none ∙ sym same,
            ap methods.is_some same ∙ comes.out name old (ap wanted own ∙ wants) none,
          )
      by (o ∷ os) declared =
          let settled = gathers.settled old (ready old wants) (suc turns) (omega arith) ∙ aim-declared task (suc turns) old o os declared in
          let there = gathers.there old o os (ready old wants) declared in
          let same : elsewhere task.made task.steps before old ≡ before old = or_else-some (before old) (first_made task.made task.steps old) there in
          (sym settled ∙ sym same, ap methods.is_some same ∙ there)

  -- what the declarations give is what the name is to have
  settles : (turns : ℕ) → task.turns < suc turns + count
      → (with_all task.step (elsewhere task.made task.rest before name) (elsewhere task.made task.steps before) None gs ≡ aim task (suc turns) name) × (methods.is_some (with_all task.step (elsewhere task.made task.rest before name) (elsewhere task.made task.steps before) None gs) ≡ true)
  settles turns enough =
      let first = group_of-cons (of_name name task.alive) gs (gathers.groups name gs here) in
      let g = first.0 in
      let more = first.1.0 in
      let declared : of_name name task.alive ≡ g ∷ more = first.1.1 in
      let is : gs ≡ g ∷ more = sym own ∙ declared in
      let behind : elsewhere task.made task.rest before name ≡ elsewhere task.made task.rest task.behind name = ap (λ o. or_else o (first_made task.made task.rest name)) (gathers.waits name gs here) in
      let both = with_all_by_first task.step (elsewhere task.made task.rest task.behind name) (at_step turns task.step (elsewhere task.made task.rest task.behind) (elsewhere task.made task.steps task.behind) task.alive) (elsewhere task.made task.steps before) g more
      (λ old wants. agrees turns enough old (ap wanted is ∙ wants)) in
      let given : with_all task.step (elsewhere task.made task.rest before name) (elsewhere task.made task.steps before) None gs ≡ with_all task.step (elsewhere task.made task.rest task.behind name) (elsewhere task.made task.steps before) None (g ∷ more) =
      (λ i. with_all task.step (behind i) (elsewhere task.made task.steps before) None (is i)) in (
        given ∙ sym both.0 ∙ sym (at_step-declared task.step turns (elsewhere task.made task.rest task.behind) (elsewhere task.made task.steps task.behind) task.alive name g more declared) ∙ sym (aim-declared task (suc turns) name g more declared),
        ap methods.is_some given ∙ both.1,
      )

  put_here : (other : List ℕ) → same_word name other ≡ true → after other ≡ with_all task.step (elsewhere task.made task.rest before name) (elsewhere task.made task.steps before) None gs
  put_here other same = put other ∙ ap (λ b. if b then with_all task.step (elsewhere task.made task.rest before name) (elsewhere task.made task.steps before) None gs else before other) same

  kept_there : (other : List ℕ) → same_word name other ≡ false → after other ≡ before other
  kept_there other apart = put other ∙ ap (λ b. if b then with_all task.step (elsewhere task.made task.rest before name) (elsewhere task.made task.steps before) None gs else before other) apart

  -- a name that is still pending is another
  still : (other : List ℕ) (os : List GivenMethod) → later other ≡ Some os → same_word name other ≡ false
  still other os pends = by (same_word name other) refl
    where
      by : (b : Bool) → same_word name other ≡ b → b ≡ false
      by true same = let none : later other ≡ None = ap later (sym (same_names name other same)) ∙ gone in absurd (cc)
      by false same = refl

  pub Gathers-finish : Gathers task after later count
  Gathers-finish = record {
    few = let few : suc count ≤ task.turns = gathers.few in omega arith;
    groups = λ other os pends. gathers.groups other os (sym (others other (still other os pends)) ∙ pends);
    waits = λ other os pends. kept_there other (still other os pends) ∙ gathers.waits other os (sym (others other (still other os pends)) ∙ pends);
    settled = λ other none turns enough. all_settled other none turns enough (same_word name other) refl;
    there = λ other g more none declared. all_there other g more none declared (same_word name other) refl;
  }
    where
      all_settled : (other : List ℕ) → later other ≡ None → (turns : ℕ) → task.turns < turns + count → (b : Bool) → same_word name other ≡ b → after other ≡ aim task turns other
      all_settled other none zero enough true same = let few : suc count ≤ task.turns = gathers.few in absurd (omega arith)
      all_settled other none (suc turns) enough true same = put_here other same ∙ (settles turns enough).0 ∙ ap (aim task (suc turns)) (same_names name other same)
      all_settled other none turns enough false apart = kept_there other apart ∙ gathers.settled other (sym (others other apart) ∙ none) turns (omega arith)

      all_there : (other : List ℕ) (g : GivenMethod) (more : List GivenMethod) → later other ≡ None → of_name other task.alive ≡ g ∷ more → (b : Bool) → same_word name other ≡ b → methods.is_some (after other) ≡ true
      all_there other g more none declared true same = ap methods.is_some (put_here other same) ∙ (settles task.turns (omega arith)).1
      all_there other g more none declared false apart = ap methods.is_some (kept_there other apart) ∙ gathers.there other g more (sym (others other apart) ∙ none) declared
