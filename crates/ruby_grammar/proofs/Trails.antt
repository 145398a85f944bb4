-- How a trail changes by what is read, named, counted, recalled and kept.
use Rattle.std.proofs.Common.{◌≡◌, ◌++◌, ◌∙◌, ℕ, max, List, Option, Some, None, Result, Ok, IfSome, refl, sym, ap, subst}
use Rattle.std.proofs.Math.Nat.{max-zero, zero-max}
use Rattle.ruby_grammar.specs.declared.tree.Tree.{Tree}
use Rattle.ruby_grammar.specs.declared.row.Row.{Row}
use Rattle.ruby_grammar.specs.declared.room.Room.{Room}
use Rattle.ruby_grammar.specs.declared.room.Budget.{Budget}
use Rattle.ruby_grammar.specs.declared.step.Step.{Step}
use Rattle.ruby_grammar.specs.declared.trail.Trail.{Trail}
use Rattle.ruby_grammar.specs.declared.memo.Kept.{Kept}
use Rattle.ruby_grammar.specs.declared.outcome.Outcome.{Outcome}
use Rattle.ruby_grammar.specs.declared.outcome.Outcome.TheVariants as outcome
use Rattle.ruby_grammar.specs.Rows.{At, Extends, IsRow, Holds, Grows}
use Rattle.ruby_grammar.specs.Steps.{no_room, room_of_both, one_more, later_mark, passed, mark_of, marked, marked_result, counted_step, counted_result}
use Rattle.ruby_grammar.specs.Meaning.{next_of, place_or}
use Rattle.ruby_grammar.specs.Memos.{Goes, Recalls, begun_at, outcome_of}
use Rattle.ruby_grammar.proofs.Extends.{at_kept, grows_row}
use Rattle.ruby_grammar.proofs.Reading.{room_same, room_first, no_mark}

-- what derives at once
pub goes_passed : (r : Result Step ℕ) (ts : List Tree) (lists more : List (List Tree)) (old : Trail) (row : Row) (next : ℕ) → r ≡ Ok (passed next) → Grows lists old.row more row ts → Goes r ts lists old (outcome.Passed next) more (record { far = old.far; need = old.need; mark = old.mark; row = row })
unfolding Goes
goes_passed r ts lists more old row next is grows = (passed next, is, refl, (sym (max-zero old.far), sym (room_same old.need)), refl, grows)

-- what derives leaves a row behind that stands for trees
pub goes_row : (r : Result Step ℕ) (ts : List Tree) (lists more : List (List Tree)) (old new : Trail) (next : ℕ) → Goes r ts lists old (outcome.Passed next) more new → IsRow lists old.row → IsRow more new.row
unfolding Goes
goes_row r ts lists more old new next goes = grows_row lists more old.row new.row ts goes.5

-- ---- names

-- a name as the mark of what derived, and a tree or trees that are made of its trees
module _ (name place next : ℕ) (f : ℕ → List Tree → List Tree) (lists old new : List (List Tree)) (r : Result Step ℕ) (ts : List Tree) (begun trail now : Trail) (base row : Row)
    (made : (us vs : List Tree) → At old base us → At old trail.row (us ++ vs) → At new row (us ++ f next vs)) (is : now ≡ record { far = trail.far; need = trail.need; mark = Some name; row = row })
    (kept : Extends lists old) (same : begun.row ≡ base) (goes : Goes r ts lists begun (outcome.Passed next) old trail) where
  pub goes_named : Goes (marked_result name r) (f (place_or place (next_of r)) ts) lists begun (outcome.Passed next) new now
  unfolding Goes
  goes_named =
      let behind : next ≡ place_or place (next_of r) = sym (ap (λ r. place_or place (next_of r)) goes.1 ∙ ap (place_or place) goes.2) in
      subst (λ (now : Trail). Goes (marked_result name r) (f (place_or place (next_of r)) ts) lists begun (outcome.Passed next) new now) (sym is) (
        marked name goes.0,
        ap (marked_result name) goes.1,
        goes.2,
        goes.3,
        ap (λ o. later_mark begun.mark (mark_of name goes.0.mark o)) (sym goes.2),
        λ us at. subst (λ n. At new row (us ++ f n ts)) behind (made us ts (at_kept lists old base us kept (subst (λ row. At lists row us) same at)) (goes.5 us at)),
      )

  pub named_row : IsRow lists base → IsRow new now.row
  named_row there = goes_row _ _ lists new begun now next goes_named (subst (IsRow lists) (sym same) there)

-- ---- budgets

-- a need that was counted from none on, behind an earlier one
counted_need : (b : Budget) (before begun need part new : Room) → begun ≡ before → need ≡ room_of_both no_room part → new ≡ room_of_both before (one_more b need) → new ≡ room_of_both begun (one_more b part)
counted_need b before begun need part new is from counts = counts ∙ ap (λ room. room_of_both before (one_more b room)) (from ∙ room_first part) ∙ ap (λ room. room_of_both room (one_more b part)) (sym is)

-- a reading whose need was counted from none on counts as open in a budget
pub goes_counted : (b : Budget) (before need : Room) (r : Result Step ℕ) (ts : List Tree) (lists more : List (List Tree)) (begun new : Trail) (out : Outcome) → need ≡ room_of_both before (one_more b new.need)
    → Goes r ts lists (record { far = begun.far; need = no_room; mark = begun.mark; row = begun.row }) out more new → begun.need ≡ before → Goes (counted_result b r) ts lists begun out more (record { far = new.far; need = need; mark = new.mark; row = new.row })
unfolding Goes
goes_counted b before need r ts lists more begun new (outcome.Passed next) counts goes is = (
  counted_step b goes.0,
  ap (counted_result b) goes.1,
  goes.2,
  (goes.3.0, counted_need b before begun.need new.need goes.0.need need is goes.3.1 counts),
  goes.4,
  goes.5,
)
goes_counted b before need r ts lists more begun new outcome.Failed counts goes is = (
  counted_step b goes.0,
  ap (counted_result b) goes.1,
  goes.2,
  (goes.3.0, counted_need b before begun.need new.need goes.0.need need is goes.3.1 counts),
)
goes_counted b before need r ts lists more begun new (outcome.TooDeep at) counts goes is = ap (counted_result b) goes
goes_counted b before need r ts lists more begun new outcome.NoMemory counts goes is = tt

-- ---- what is kept

-- what was read before derives again, behind another row
pub goes_recalled : (r : Result Step ℕ) (ts : List Tree) (lists new : List (List Tree)) (kept : Kept) (before now : Trail) (row : Row) (next : ℕ) → kept.step.next ≡ Some next → ((us vs ws : List Tree) → At lists kept.base us → At lists kept.row (us ++ vs) → At lists before.row ws → At new row (ws ++ vs))
    → now ≡ record { far = max before.far kept.step.far; need = room_of_both before.need kept.step.need; mark = later_mark before.mark kept.step.mark; row = row } → Recalls r ts lists kept → Goes r ts lists before (outcome.Passed next) new now
unfolding Goes Recalls
goes_recalled r ts lists new kept before now row next derives made is recalls =
    let trees : (recalls.0.mark ≡ kept.step.mark) × Holds lists kept.base kept.row ts = subst (λ (o : Option ℕ). IfSome o (λ next. (recalls.0.mark ≡ kept.step.mark) × Holds lists kept.base kept.row ts)) (recalls.2 ∙ derives) recalls.5 in
    subst (λ (now : Trail). Goes r ts lists before (outcome.Passed next) new now) (sym is) (
      recalls.0,
      recalls.1,
      recalls.2 ∙ derives,
      (ap (max before.far) (sym recalls.3), ap (room_of_both before.need) (sym recalls.4)),
      ap (later_mark before.mark) (sym trees.0),
      λ ws at. made trees.1.0 ts ws trees.1.1 trees.1.2 at,
    )

-- what was read before fails again
pub fails_recalled : (r : Result Step ℕ) (ts : List Tree) (lists : List (List Tree)) (kept : Kept) (before now : Trail) → kept.step.next ≡ None → now ≡ record { far = max before.far kept.step.far; need = room_of_both before.need kept.step.need; mark = later_mark before.mark kept.step.mark; row = before.row }
    → Recalls r ts lists kept → Goes r ts lists before outcome.Failed lists now
unfolding Goes Recalls
fails_recalled r ts lists kept before now fails is recalls = subst (λ (now : Trail). Goes r ts lists before outcome.Failed lists now) (sym is) (recalls.0, recalls.1, recalls.2 ∙ fails, (ap (max before.far) (sym recalls.3), ap (room_of_both before.need) (sym recalls.4)))

-- a reading that began anew, behind an earlier trail
joined : (r : Result Step ℕ) (ts : List Tree) (lists more : List (List Tree)) (before new : Trail) (o : Option ℕ) → Goes r ts lists (begun_at before.row) (outcome_of o) more new
    → Goes r ts lists before (outcome_of o) more (record { far = max before.far new.far; need = room_of_both before.need new.need; mark = later_mark before.mark new.mark; row = new.row })
unfolding Goes
joined r ts lists more before new (Some next) goes = (
  goes.0,
  goes.1,
  goes.2,
  (ap (max before.far) (goes.3.0 ∙ zero-max goes.0.far), ap (room_of_both before.need) (goes.3.1 ∙ room_first goes.0.need)),
  ap (later_mark before.mark) (goes.4 ∙ no_mark goes.0.mark),
  goes.5,
)
joined r ts lists more before new None goes = (
  goes.0,
  goes.1,
  goes.2,
  (ap (max before.far) (goes.3.0 ∙ zero-max goes.0.far), ap (room_of_both before.need) (goes.3.1 ∙ room_first goes.0.need)),
)

pub goes_joined : (r : Result Step ℕ) (ts : List Tree) (lists more : List (List Tree)) (before new now : Trail) (o : Option ℕ) (out : Outcome) → outcome_of o ≡ out → now ≡ record { far = max before.far new.far; need = room_of_both before.need new.need; mark = later_mark before.mark new.mark; row = new.row }
    → Goes r ts lists (begun_at before.row) (outcome_of o) more new → Goes r ts lists before out more now
goes_joined r ts lists more before new now o out ends is goes =
    subst (λ (now : Trail). Goes r ts lists before out more now) (sym is)
    (subst (λ (out : Outcome). Goes r ts lists before out more (record { far = max before.far new.far; need = room_of_both before.need new.need; mark = later_mark before.mark new.mark; row = new.row })) ends (joined r ts lists more before new o goes))
