-- What a memo's entries say, and that they say it on.
use Rattle.std.proofs.Common.{◌≡◌, ℕ, List, [], ◌∷◌, ◌++◌, slice_index_or, Option, Some, None, Result, IfSome, subst, sym, ◌∙◌}
use Rattle.std.specs.List.{All, Contains}
use Rattle.std.proofs.Math.Nat.{zero-max}
use Rattle.std.proofs.lemmas.List.Elements.{All-contains, All-nil, All-push}
use Rattle.ruby_grammar.specs.declared.token.Token.{Token}
use Rattle.ruby_grammar.specs.declared.room.Room.{Room}
use Rattle.ruby_grammar.specs.declared.row.Row.{Row}
use Rattle.ruby_grammar.specs.declared.part.Rule.{Rule}
use Rattle.ruby_grammar.specs.declared.step.Step.{Step}
use Rattle.ruby_grammar.specs.declared.trail.Trail.{Trail}
use Rattle.ruby_grammar.specs.declared.tree.Tree.{Tree}
use Rattle.ruby_grammar.specs.declared.memo.Kept.{Kept}
use Rattle.ruby_grammar.specs.declared.memo.Entry.{Entry}
use Rattle.ruby_grammar.specs.Meaning.{within}
use Rattle.ruby_grammar.specs.Rows.{Extends, IsRow, Holds}
use Rattle.ruby_grammar.specs.Memos.{Fits, Goes, Recalls, IsSound, Sound, begun_at, outcome_of}
use Rattle.ruby_grammar.proofs.Extends.{at_kept, holds_kept, is_row_kept}
use Rattle.ruby_grammar.proofs.SameTrees.{Same}
use Rattle.ruby_grammar.proofs.Rooms.{within_keeps}
use Rattle.ruby_grammar.proofs.Reading.{room_first, no_mark}

-- what is kept is read in each room that is enough, with these trees
pub found : (rules : List Rule) (tokens : List Token) (lists : List (List Tree)) (memo : List Entry) (row : Row) (room : Room) (r i : ℕ) (kept : Kept) → Sound rules tokens lists memo row → (before : ℕ) × Contains memo (record { rule = r; place = i; kept = kept; before = before }) → Fits kept.step.need room → Recalls ((within rules tokens room.rules room.words r).step i) ((within rules tokens room.rules room.words r).trees i) lists kept
unfolding Sound
found rules tokens lists memo row room r i kept sound here fits = All-contains (IsSound rules tokens lists) memo (record { rule = r; place = i; kept = kept; before = here.0 }) sound.0 here.1 room fits

-- where there is nothing nothing is said
pub new_sound : (rules : List Rule) (tokens : List Token) (memo : List Entry) (lists : List (List Tree)) (row : Row) → memo ≡ [] → IsRow lists row → Sound rules tokens lists memo row
unfolding Sound
new_sound rules tokens memo lists row is there = (subst (All (IsSound rules tokens lists)) (sym is) (All-nil (IsSound rules tokens lists)), there)

pub sound_row : (rules : List Rule) (tokens : List Token) (lists : List (List Tree)) (memo : List Entry) (row : Row) → Sound rules tokens lists memo row → IsRow lists row
unfolding Sound
sound_row rules tokens lists memo row sound = sound.1

-- ---- rows are only added

-- mark and trees count where it derives
if_kept : (o : Option ℕ) (A P Q : Type 0) → (P → Q) → IfSome o (λ next. A × P) → IfSome o (λ next. A × Q)
if_kept None A P Q more holds = tt
if_kept (Some next) A P Q more holds = (holds.0, more holds.1)

recalls_kept : (r : Result Step ℕ) (ts : List Tree) (old new : List (List Tree)) (kept : Kept) → Extends old new → Recalls r ts old kept → Recalls r ts new kept
unfolding Recalls
recalls_kept r ts old new kept more recalls = (
  recalls.0,
  recalls.1,
  recalls.2,
  recalls.3,
  recalls.4,
  if_kept recalls.0.next (recalls.0.mark ≡ kept.step.mark) (Holds old kept.base kept.row ts) (Holds new kept.base kept.row ts) (holds_kept old new kept.base kept.row ts more) recalls.5,
)

-- what was sound is so on, behind each row that stands for trees
pub still_sound : (rules : List Rule) (tokens : List Token) (old new : List (List Tree)) (memo : List Entry) (row more : Row) → Extends old new → IsRow new more → Sound rules tokens old memo row → Sound rules tokens new memo more
unfolding Sound
still_sound rules tokens old new memo row more extends there sound = (λ k d below room fits. recalls_kept _ _ old new (slice_index_or memo k d).kept extends (sound.0 k d below room fits), there)

-- behind the same row too
pub grown_sound : (rules : List Rule) (tokens : List Token) (old new : List (List Tree)) (memo : List Entry) (row : Row) → Extends old new → Sound rules tokens old memo row → Sound rules tokens new memo row
grown_sound rules tokens old new memo row extends sound = still_sound rules tokens old new memo row row extends (is_row_kept old new row extends (sound_row rules tokens old memo row sound)) sound

-- back behind an earlier row
pub back_sound : (rules : List Rule) (tokens : List Token) (old new : List (List Tree)) (before memo : List Entry) (row now : Row) → Extends old new → Sound rules tokens old before row → Sound rules tokens new memo now → Sound rules tokens new memo row
unfolding Sound
back_sound rules tokens old new before memo row now extends earlier sound = (sound.0, is_row_kept old new row extends earlier.1)

-- ---- one entry more

-- trees are the same where something derives
same_holds : (o : Option ℕ) (A : Type 0) (P : List Tree → Type 0) (ts us : List Tree) → Same o ts us → IfSome o (λ next. A × P ts) → IfSome o (λ next. A × P us)
same_holds None A P ts us same holds = tt
same_holds (Some next) A P ts us same holds = (holds.0, subst P same holds.1)

-- what is recalled in one room is recalled in each room that is enough
recalled_sound : (rules : List Rule) (tokens : List Token) (lists : List (List Tree)) (room : Room) (r i before : ℕ) (kept : Kept) → Recalls ((within rules tokens room.rules room.words r).step i) ((within rules tokens room.rules room.words r).trees i) lists kept → IsSound rules tokens lists (record { rule = r; place = i; kept = kept; before = before })
unfolding Recalls
recalled_sound rules tokens lists room r i before kept recalls other fits =
    let same = within_keeps rules tokens room.rules room.words other r i recalls.0 recalls.1 (subst (λ (need : Room). Fits need other) (sym recalls.4) fits) in (
      recalls.0,
      same.0,
      recalls.2,
      recalls.3,
      recalls.4,
      same_holds recalls.0.next (recalls.0.mark ≡ kept.step.mark) (Holds lists kept.base kept.row) ((within rules tokens room.rules room.words r).trees i) ((within rules tokens other.rules other.words r).trees i) same.1 recalls.5,
    )

-- what was just read may be kept
read_recalls : (r : Result Step ℕ) (ts : List Tree) (lists more : List (List Tree)) (base : Row) (o : Option ℕ) (new : Trail) → IsRow lists base → Extends lists more → Goes r ts lists (begun_at base) (outcome_of o) more new
    → Recalls r ts more (record { step = record { far = new.far; next = o; mark = new.mark; need = new.need }; base = base; row = new.row })
unfolding Goes Recalls
read_recalls r ts lists more base (Some next) new there extends goes = (
  goes.0,
  goes.1,
  goes.2,
  sym (goes.3.0 ∙ zero-max goes.0.far),
  sym (goes.3.1 ∙ room_first goes.0.need),
  subst (λ (o : Option ℕ). IfSome o (λ next. (goes.0.mark ≡ new.mark) × Holds more base new.row ts)) (sym goes.2) (sym (goes.4 ∙ no_mark goes.0.mark), (there.0, at_kept lists more base there.0 extends there.1, goes.5 there.0 there.1)),
)
read_recalls r ts lists more base None new there extends goes = (
  goes.0,
  goes.1,
  goes.2,
  sym (goes.3.0 ∙ zero-max goes.0.far),
  sym (goes.3.1 ∙ room_first goes.0.need),
  subst (λ (o : Option ℕ). IfSome o (λ next. (goes.0.mark ≡ new.mark) × Holds more base new.row ts)) (sym goes.2) tt,
)

-- what a rule just read is kept
pub kept_sound : (rules : List Rule) (tokens : List Token) (room : Room) (lists more : List (List Tree)) (r i : ℕ) (base : Row) (o : Option ℕ) (new now : Trail) (old memo : List Entry) → now.row ≡ new.row
    → (before : ℕ) × (memo ≡ old ++ record { rule = r; place = i; kept = record { step = record { far = new.far; next = o; mark = new.mark; need = new.need }; base = base; row = new.row }; before = before } ∷ [])
    → IsRow lists base → Extends lists more → Goes ((within rules tokens room.rules room.words r).step i) ((within rules tokens room.rules room.words r).trees i) lists (begun_at base) (outcome_of o) more new → Sound rules tokens more old new.row → Sound rules tokens more memo now.row
unfolding Sound
kept_sound rules tokens room lists more r i base o new now old memo same is there extends goes sound =
    let kept : Kept = record { step = record { far = new.far; next = o; mark = new.mark; need = new.need }; base = base; row = new.row } in (
      subst (All (IsSound rules tokens more)) (sym is.1)
          (All-push (IsSound rules tokens more) old (record { rule = r; place = i; kept = kept; before = is.0 }) sound.0
          (recalled_sound rules tokens more room r i is.0 kept (read_recalls _ _ lists more base o new there extends goes))),
      subst (IsRow more) (sym same) sound.1,
    )

-- what is kept says so at each row
pub row_sound : (rules : List Rule) (tokens : List Token) (lists : List (List Tree)) (memo : List Entry) (row now : Row) → Sound rules tokens lists memo now → IsRow lists row → Sound rules tokens lists memo row
unfolding Sound
row_sound rules tokens lists memo row now sound is = (sound.0, is)

-- the row of an earlier trail
pub row_on : (rules : List Rule) (tokens : List Token) (old new : List (List Tree)) (memo : List Entry) (row : Row) → Sound rules tokens old memo row → Extends old new → IsRow new row
row_on rules tokens old new memo row sound more = is_row_kept old new row more (sound_row rules tokens old memo row sound)
