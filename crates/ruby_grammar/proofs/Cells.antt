-- What the cells of a forest stand for.
use Rattle.std.proofs.Common.{◌≡◌, ◌<◌, ◌≤◌, ◌+◌, ◌-◌, ◌++◌, ◌∷◌, [], ℕ, zero, suc, List, drop, fold, length, reverse, slice_get, take, Option, Some, None, ap, arith, refl, sym, ◌∙◌, subst, append_assoc, length-append}
use Rattle.std.proofs.lemmas.Option.{none-some, same_Some, slice_get_past}
use Rattle.std.proofs.lemmas.List.{append-nil, drop-append-le, drop_all, length-take-le, reverse-append, take-append-drop}
use Rattle.std.proofs.lemmas.List.Sums.{fold-append}
use Rattle.std.proofs.Math.Seq.{drop-append_seam}
use Rattle.ruby_grammar.specs.declared.tree.Tree.{Tree}
use Rattle.ruby_grammar.specs.declared.tree.Tree.TheVariants as tree
use Rattle.ruby_grammar.specs.declared.row.Cell.{Cell}
use Rattle.ruby_grammar.specs.declared.row.Row.{Row}
use Rattle.ruby_grammar.specs.Meaning.{chained_trees}
use Rattle.ruby_grammar.specs.Rows.{At, Extends}
use Rattle.ruby_grammar.specs.Cells.{and_one, before_of, cell_of, denoted, last_of, list_at, lists_of, or_none, tree_of}
use Rattle.ruby_grammar.proofs.Extends.{at_same, extends_same, extends_then}

-- ---- lists that grow at their end

stays : {X : Type 0} (xs ys : List X) (k : ℕ) (x : X) → slice_get xs k ≡ Some x → slice_get (xs ++ ys) k ≡ Some x
stays [] ys k x is = absurd (none-some x is)
stays (y ∷ xs) ys zero x is = is
stays (y ∷ xs) ys (suc k) x is = stays xs ys k x is

at_end : {X : Type 0} (xs : List X) (x : X) → slice_get (xs ++ x ∷ []) (length xs) ≡ Some x
at_end [] x = refl
at_end (y ∷ xs) x = at_end xs x

past : {X : Type 0} (xs : List X) (k : ℕ) → slice_get xs k ≡ None → length xs ≤ k
past [] k is = omega arith
past (x ∷ xs) zero is = absurd (none-some x (sym is))
past (x ∷ xs) (suc k) is = let le : length xs ≤ k = past xs k is in omega arith

extends_push : (lists : List (List Tree)) (ts : List Tree) → Extends lists (lists ++ ts ∷ [])
unfolding Extends
extends_push lists ts = λ k us is. stays lists (ts ∷ []) k us is

-- ---- the lists of cells, one more at each

more_from : (lists : List (List Tree)) (cells : List Cell) → Extends lists (fold and_one lists cells)
more_from lists [] = extends_same lists
more_from lists (c ∷ cells) = extends_then lists (and_one lists c) (fold and_one (and_one lists c) cells) (extends_push lists (denoted lists c)) (more_from (and_one lists c) cells)

count_from : (lists : List (List Tree)) (cells : List Cell) → length (fold and_one lists cells) ≡ length lists + length cells
count_from lists [] = omega arith
count_from lists (c ∷ cells) =
    let one : length (and_one lists c) ≡ length lists + 1 = length-append lists (denoted lists c ∷ []) in
    let rest : length (fold and_one (and_one lists c) cells) ≡ length (and_one lists c) + length cells = count_from (and_one lists c) cells in
    omega arith

cell_from : (lists : List (List Tree)) (cells : List Cell) (k : ℕ) (c : Cell) → slice_get cells k ≡ Some c → slice_get (fold and_one lists cells) (length lists + k) ≡ Some (denoted (fold and_one lists (take k cells)) c)
unfolding Extends
cell_from lists [] k c is = absurd (none-some c is)
cell_from lists (x ∷ cells) zero c is =
    let there : length lists ≡ length lists + 0 = omega arith in
    subst (λ n. slice_get (fold and_one (and_one lists x) cells) n ≡ Some (denoted lists c)) there
    (more_from (and_one lists x) cells (length lists) (denoted lists x) (at_end lists (denoted lists x)) ∙ ap (λ z. Some (denoted lists z)) (same_Some x c is))
cell_from lists (x ∷ cells) (suc k) c is =
    let one : length (and_one lists x) ≡ length lists + 1 = length-append lists (denoted lists x ∷ []) in
    let there : length (and_one lists x) + k ≡ length lists + suc k = omega arith in
    subst (λ n. slice_get (fold and_one (and_one lists x) cells) n ≡ Some (denoted (fold and_one (and_one lists x) (take k cells)) c)) there (cell_from (and_one lists x) cells k c is)

-- ---- what the numbers stand for

one_more : (cells : List Cell) (c : Cell) → lists_of (cells ++ c ∷ []) ≡ lists_of cells ++ denoted (lists_of cells) c ∷ []
unfolding lists_of
one_more cells c = fold-append and_one ([] ∷ []) cells (c ∷ [])

count_of : (cells : List Cell) → length (lists_of cells) ≡ length cells + 1
unfolding lists_of
count_of cells = let from : length (fold and_one ([] ∷ []) cells) ≡ 1 + length cells = count_from ([] ∷ []) cells in omega arith

-- the number 0 stands for no trees
at_zero : (cells : List Cell) → slice_get (lists_of cells) 0 ≡ Some []
unfolding lists_of Extends
at_zero cells = more_from ([] ∷ []) cells 0 [] refl

-- some cells at the beginning stand for what they stand for among all
front : (cells : List Cell) (k : ℕ) → Extends (lists_of (take k cells)) (lists_of cells)
unfolding lists_of
front cells k =
    subst (Extends (fold and_one ([] ∷ []) (take k cells)))
    (sym (fold-append and_one ([] ∷ []) (take k cells) (drop k cells)) ∙ ap (fold and_one ([] ∷ [])) (take-append-drop k cells))
    (more_from (fold and_one ([] ∷ []) (take k cells)) (drop k cells))

at_place : (cells : List Cell) (k : ℕ) (c : Cell) → slice_get cells k ≡ Some c → list_at (lists_of cells) (suc k) ≡ denoted (lists_of (take k cells)) c
unfolding lists_of
at_place cells k c is =
    let there : 1 + k ≡ suc k = omega arith in
    ap or_none (subst (λ n. slice_get (fold and_one ([] ∷ []) cells) n ≡ Some (denoted (fold and_one ([] ∷ []) (take k cells)) c)) there (cell_from ([] ∷ []) cells k c is))

-- a cell's number stands for what the cell does among those before it
at_cell : (cells : List Cell) (n : ℕ) (c : Cell) → cell_of cells n ≡ Some c → list_at (lists_of cells) n ≡ denoted (lists_of (take (n - 1) cells)) c
at_cell cells zero c at = absurd (none-some c at)
at_cell cells (suc n) c at =
    let same : n ≡ suc n - 1 = omega arith in
    subst (λ i. list_at (lists_of cells) (suc n) ≡ denoted (lists_of (take i cells)) c) same (at_place cells n c at)

-- a number without a cell stands for no trees
at_none : (cells : List Cell) (n : ℕ) → cell_of cells n ≡ None → list_at (lists_of cells) n ≡ []
at_none cells zero is = ap or_none (at_zero cells)
at_none cells (suc k) is =
    let beyond : length cells ≤ k = past cells k is in
    let all : length (lists_of cells) ≡ length cells + 1 = count_of cells in
    ap or_none (slice_get_past (lists_of cells) (suc k) (omega arith))

-- ---- what some lists at the beginning know

kept : (front lists : List (List Tree)) (k : ℕ) (found : Option (List Tree)) → slice_get front k ≡ found → k < length front → Extends front lists → list_at lists k ≡ list_at front k
unfolding Extends
kept front lists k None is below more = let beyond : length front ≤ k = past front k is in absurd (omega arith)
kept front lists k (Some ts) is below more = ap or_none (more k ts is ∙ sym is)

pub kept_at : (front lists : List (List Tree)) (k number : ℕ) → k < number → length front ≡ number → Extends front lists → list_at lists k ≡ list_at front k
kept_at front lists k number below all more = kept front lists k (slice_get front k) refl (omega arith) more

pub left_out : (front lists : List (List Tree)) (k number : ℕ) → number ≤ k → length front ≡ number → slice_get front 0 ≡ Some [] → Extends front lists → list_at lists 0 ≡ list_at front k
unfolding Extends
left_out front lists k number beyond all none more = ap or_none (more 0 [] none) ∙ sym (ap or_none (slice_get_past front k (omega arith)))

-- ---- so many trees at the end

last_none : (n : ℕ) → last_of n [] ≡ []
last_none n = drop_all (0 - n) [] (omega arith)

last_above : (ts us : List Tree) → last_of (length us) (ts ++ us) ≡ us
last_above ts us =
    let all : length (ts ++ us) ≡ length ts + length us = length-append ts us in
    let at : length (ts ++ us) - length us ≡ length ts = omega arith in
    ap (λ n. drop n (ts ++ us)) at ∙ drop-append_seam ts us

last_more : (n : ℕ) (ts : List Tree) (t : Tree) → (n ≡ 0 → ⊥) → last_of n (ts ++ t ∷ []) ≡ last_of (n - 1) ts ++ t ∷ []
last_more n ts t some =
    let all : length (ts ++ t ∷ []) ≡ length ts + 1 = length-append ts (t ∷ []) in
    let at : length (ts ++ t ∷ []) - n ≡ length ts - (n - 1) = omega (arith, some) in
    ap (λ k. drop k (ts ++ t ∷ [])) at ∙ drop-append-le (length ts - (n - 1)) ts (t ∷ []) (omega arith)

-- ---- what is added

pub unchanged : (lists : List (List Tree)) (old new : List Cell) → lists ≡ lists_of old → new ≡ old → Extends lists (lists_of new)
unchanged lists old new are is = subst (Extends lists) (are ∙ ap lists_of (sym is)) (extends_same lists)

pub added : (lists : List (List Tree)) (old new : List Cell) (c : Cell) → lists ≡ lists_of old → new ≡ old ++ c ∷ [] → Extends lists (lists_of new)
added lists old new c are is = subst (λ x. Extends x (lists_of new)) (sym are) (subst (Extends (lists_of old)) (sym (ap lists_of is ∙ one_more old c)) (extends_push (lists_of old) (denoted (lists_of old) c)))

pub held : (lists : List (List Tree)) (old new : List Cell) (c : Cell) (number : ℕ) → lists ≡ lists_of old → number ≡ length new → new ≡ old ++ c ∷ [] → slice_get (lists_of new) number ≡ Some (denoted lists c)
held lists old new c number are at is =
    let all : length (lists_of old) ≡ length old + 1 = count_of old in
    let more : length new ≡ length old + 1 = ap length is ∙ length-append old (c ∷ []) in
    let here : length (lists_of old) ≡ number = omega arith in
    ap (λ x. slice_get x number) (ap lists_of is ∙ one_more old c)
    ∙ subst (λ n. slice_get (lists_of old ++ denoted (lists_of old) c ∷ []) n ≡ Some (denoted (lists_of old) c)) here (at_end (lists_of old) (denoted (lists_of old) c))
    ∙ ap (λ x. Some (denoted x c)) (sym are)

-- ---- one tree more behind a row

one_behind : (old new : List (List Tree)) (row more : Row) (before : ℕ) (t : Tree) (ts : List Tree) → before ≡ row.last → slice_get new more.last ≡ Some (list_at old before ++ t ∷ []) → more.height ≡ row.height + 1 → At old row ts → At new more (ts ++ t ∷ [])
one_behind old new row more before t ts is held height stands =
    let all : length (ts ++ t ∷ []) ≡ length ts + 1 = length-append ts (t ∷ []) in
    let tall : row.height ≡ length ts = stands.1 in
    (held ∙ ap (λ k. Some (list_at old k ++ t ∷ [])) is ∙ ap (λ l. Some (or_none l ++ t ∷ [])) stands.0, omega arith)

pub leaf_held : (old new : List (List Tree)) (row more : Row) (before at place : ℕ) → before ≡ row.last → at ≡ place → slice_get new more.last ≡ Some (list_at old before ++ tree.Leaf at ∷ []) → more.height ≡ row.height + 1 → (ts : List Tree) → At old row ts → At new more (ts ++ tree.Leaf place ∷ [])
leaf_held old new row more before at place is there held height ts stands = one_behind old new row more before (tree.Leaf place) ts is (held ∙ ap (λ k. Some (list_at old before ++ tree.Leaf k ∷ [])) there) height stands

-- so many trees as a row has behind its base are those
above_base : (lists : List (List Tree)) (base row : Row) (above : ℕ) → above ≡ row.height - base.height → (ts us : List Tree) → At lists base ts → At lists row (ts ++ us) → last_of above (list_at lists row.last) ≡ us
above_base lists base row above over ts us stands whole =
    let tall : length (ts ++ us) ≡ length ts + length us = length-append ts us in
    let low : base.height ≡ length ts = stands.1 in
    let high : row.height ≡ length (ts ++ us) = whole.1 in
    let many : above ≡ length us = omega arith in
    ap (λ l. last_of above (or_none l)) whole.0 ∙ ap (λ n. last_of n (ts ++ us)) many ∙ last_above ts us

pub node_held : (old new : List (List Tree)) (base row more : Row) (name first behind before from to last count above : ℕ) → before ≡ base.last → from ≡ first → to ≡ behind → last ≡ row.last → count ≡ above → above ≡ row.height - base.height → slice_get new more.last ≡ Some (list_at old before ++ tree.Node name from to (last_of count (list_at old last)) ∷ []) → more.height ≡ base.height + 1 → (ts us : List Tree) → At old base ts → At old row (ts ++ us) → At new more (ts ++ tree.Node name first behind us ∷ [])
node_held old new base row more name first behind before from to last count above is start end ends counts over held height ts us stands whole =
    let inner : last_of count (list_at old last) ≡ us = ap (λ k. last_of count (list_at old k)) ends ∙ above_base old base row count (counts ∙ over) ts us stands whole in
    let node : tree.Node name from to (last_of count (list_at old last)) ≡ tree.Node name first behind us = ap (λ k. tree.Node name k to (last_of count (list_at old last))) start ∙ ap (λ k. tree.Node name first k (last_of count (list_at old last))) end ∙ ap (tree.Node name first behind) inner in
    one_behind old new base more before (tree.Node name first behind us) ts is (held ∙ ap (λ t. Some (list_at old before ++ t ∷ [])) node) height stands

-- one tree alone is its own chain
chain_alone : (name first behind : ℕ) (us : List Tree) → length us ≡ 1 → us ≡ chained_trees name first behind us
chain_alone name first behind [] is = absurd (omega (arith, is))
chain_alone name first behind (u ∷ []) is = refl
chain_alone name first behind (u ∷ v ∷ us) is = absurd (omega (arith, is))

pub one_alone : (lists : List (List Tree)) (base row : Row) (name first behind above : ℕ) → above ≡ row.height - base.height → above ≡ 1 → (ts us : List Tree) → At lists base ts → At lists row (ts ++ us) → At lists row (ts ++ chained_trees name first behind us)
one_alone lists base row name first behind above over one ts us stands whole =
    let tall : length (ts ++ us) ≡ length ts + length us = length-append ts us in
    let low : base.height ≡ length ts = stands.1 in
    let high : row.height ≡ length (ts ++ us) = whole.1 in
    subst (λ l. At lists row (ts ++ l)) (chain_alone name first behind us (omega arith)) whole

-- ---- what is copied and moved

pub copied_none : (lists : List (List Tree)) (cells : List Cell) (last count : ℕ) (to : Row) → lists ≡ lists_of cells → cell_of cells last ≡ None → (vs : List Tree) → At lists to vs → At lists to (vs ++ last_of count (list_at lists last))
copied_none lists cells last count to are none vs stands =
    let nothing : list_at lists last ≡ [] = ap (λ l. list_at l last) are ∙ at_none cells last none in
    subst (At lists to) (sym (ap (λ l. vs ++ last_of count l) nothing ∙ ap (λ l. vs ++ l) (last_none count) ∙ append-nil vs)) stands

-- a cell that is made of rows below its number alone, behind what the row before it was copied to
pub copied_one : (old between new : List (List Tree)) (cells : List Cell) (last count start before : ℕ) (row more : Row) (c kept copy : Cell) → old ≡ lists_of cells → cell_of cells last ≡ Some c → (0 < last) × (last ≤ length cells) → (count ≡ 0 → ⊥) → Extends old between
    → ((front lists : List (List Tree)) → length front ≡ last → slice_get front 0 ≡ Some [] → Extends front lists → list_at lists (before_of kept) ≡ list_at front (before_of c))
    → ((front lists : List (List Tree)) → length front ≡ last → slice_get front 0 ≡ Some [] → Extends front lists → tree_of lists kept ≡ tree_of front c)
    → start ≡ before_of kept → before ≡ row.last
    → ((lists : List (List Tree)) → denoted lists copy ≡ list_at lists before ++ tree_of lists kept ∷ [])
    → slice_get new more.last ≡ Some (denoted between copy) → more.height ≡ row.height + 1
    → (vs : List Tree) → At between row (vs ++ last_of (count - 1) (list_at old start)) → At new more (vs ++ last_of count (list_at old last))
copied_one old between new cells last count start before row more c kept copy are at within some grown befores trees starts is copies held height vs stands =
    let known = take (last - 1) cells in
    let few : length known ≡ last - 1 = length-take-le (last - 1) cells (omega (arith, within)) in
    let all : length (lists_of known) ≡ length known + 1 = count_of known in
    let long : length (lists_of known) ≡ last = omega (arith, within) in
    let below : Extends (lists_of known) old = subst (Extends (lists_of known)) (sym are) (front cells (last - 1)) in
    let prior : list_at old start ≡ list_at (lists_of known) (before_of c) = ap (list_at old) starts ∙ befores (lists_of known) old long (at_zero known) below in
    let same : tree_of between kept ≡ tree_of (lists_of known) c = trees (lists_of known) between long (at_zero known) (extends_then (lists_of known) old between below grown) in
    let ts = list_at old start in
    let t = tree_of between kept in
    let here : list_at old last ≡ ts ++ t ∷ [] = ap (λ l. list_at l last) are ∙ at_cell cells last c at ∙ sym (ap (λ l. l ++ t ∷ []) prior ∙ ap (λ x. list_at (lists_of known) (before_of c) ++ x ∷ []) same) in
    let whole : vs ++ last_of count (list_at old last) ≡ (vs ++ last_of (count - 1) ts) ++ t ∷ [] = ap (λ l. vs ++ last_of count l) here ∙ ap (λ l. vs ++ l) (last_more count ts t some) ∙ sym (append_assoc vs (last_of (count - 1) ts) (t ∷ [])) in
    subst (At new more) (sym whole) (one_behind between new row more before t (vs ++ last_of (count - 1) ts) is (held ∙ ap Some (copies between)) height stands)

pub same_base : (lists : List (List Tree)) (base row to : Row) → base ≡ to → (ts us vs : List Tree) → At lists base ts → At lists row (ts ++ us) → At lists to vs → At lists row (vs ++ us)
same_base lists base row to is ts us vs stands whole other = subst (λ l. At lists row (l ++ us)) (at_same lists to ts vs (subst (λ r. At lists r ts) is stands) other) whole

pub moved_held : (lists new : List (List Tree)) (base row more : Row) (above : ℕ) → above ≡ row.height - base.height → (ts us vs : List Tree) → At lists base ts → At lists row (ts ++ us) → At new more (vs ++ last_of above (list_at lists row.last)) → At new more (vs ++ us)
moved_held lists new base row more above over ts us vs stands whole held = subst (λ l. At new more (vs ++ l)) (above_base lists base row above over ts us stands whole) held

-- ---- what is made, the last put first

pub put_none : (cells : List Cell) (number left : ℕ) (out : List Tree) → cell_of cells number ≡ None → out ≡ out ++ reverse (last_of left (list_at (lists_of cells) number))
put_none cells number left out none = sym (ap (λ l. out ++ reverse (last_of left l)) (at_none cells number none) ∙ ap (λ l. out ++ reverse l) (last_none left) ∙ append-nil out)

pub put_one : (cells : List Cell) (number left before : ℕ) (c : Cell) (t : Tree) (out next : List Tree) → (left ≡ 0 → ⊥) → cell_of cells number ≡ Some c → before ≡ before_of c → t ≡ tree_of (lists_of (take (number - 1) cells)) c → next ≡ out ++ t ∷ [] → next ++ reverse (last_of (left - 1) (list_at (lists_of (take (number - 1) cells)) before)) ≡ out ++ reverse (last_of left (list_at (lists_of cells) number))
put_one cells number left before c t out next some at is made put =
    let lists = lists_of (take (number - 1) cells) in
    let row = list_at lists before in
    let here : list_at (lists_of cells) number ≡ row ++ t ∷ [] = at_cell cells number c at ∙ ap (λ k. list_at lists k ++ tree_of lists c ∷ []) (sym is) ∙ ap (λ x. row ++ x ∷ []) (sym made) in
    ap (λ l. l ++ reverse (last_of (left - 1) row)) put
    ∙ append_assoc out (t ∷ []) (reverse (last_of (left - 1) row))
    ∙ sym (ap (λ l. out ++ reverse (last_of left l)) here ∙ ap (λ l. out ++ reverse l) (last_more left row t some) ∙ ap (λ l. out ++ l) (reverse-append (last_of (left - 1) row) (t ∷ [])))

pub front_within : (cells : List Cell) (number n : ℕ) → number ≤ length cells → length cells ≤ n → length (take (number - 1) cells) ≤ n
front_within cells number n in_it within =
    let at : length (take (number - 1) cells) ≡ number - 1 = length-take-le (number - 1) cells (omega arith) in
    omega arith

pub all_made : (lists : List (List Tree)) (row : Row) (all : List Tree) → all ≡ last_of row.height (list_at lists row.last) → (ts : List Tree) → At lists row ts → all ≡ ts
all_made lists row all made ts stands = made ∙ ap (λ l. last_of row.height (or_none l)) stands.0 ∙ ap (λ n. last_of n ts) stands.1 ∙ last_above [] ts
