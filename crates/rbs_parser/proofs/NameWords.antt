-- The words of a name, found one by one.
use Rattle.std.proofs.Common.{◌≡◌, ◌<◌, ℕ, true, false, List, length, [], ◌∷◌, ◌++◌, Ok, Err, refl, sym, ◌∙◌, ap, append_assoc}
use Rattle.std.specs.Prelude.{map}
use Rattle.rbs_lexer.specs.Tokens.{Token}
use Rattle.rbs_lexer.specs.declared.kind.Kind.{Kind}
use Rattle.rbs_lexer.specs.declared.kind.Kind.TheVariants as k
use Rattle.rbs_grammar.specs.declared.parts.Words.{Words}
use Rattle.rbs_grammar.specs.declared.stage.Stage.{Stage}
use Rattle.rbs_grammar.specs.declared.stage.Stage.TheVariants as at
use Rattle.rbs_grammar.specs.Rules.{Kinds, is}
use Rattle.rbs_grammar.specs.Grammar.{tok, seq, begins, fine, Outcome, then_read, pure, read_token, read}
use Rattle.rbs_grammar.specs.Levels.{full, read_in}
use Rattle.rbs_grammar.specs.Parts.{same}
use Rattle.rbs_grammar.specs.Names.{text_of, last_of, words_of, words_to, and_stage, name_leads, constant_part, constants, outer_names, last_word, name_part}
use Rattle.rbs_parser.specs.declared.names.Ends.{Ends}
use Rattle.rbs_parser.specs.declared.names.Ends.TheVariants as ends
use Rattle.rbs_parser.specs.NameWords.{start_of, one_more, more_words, ends_of, outer_part, outer_words, words_by}
use Rattle.rbs_parser.proofs.Stages.{with_stages, begin_stages, step_stages, end_stages, smaller_stages}
use Rattle.rbs_parser.proofs.Each.{with_each, begin_each, step_each, end_each, smaller_each}

abbrev made : List (List ℕ) → ℕ → ℕ → Kind → Words
made path start end last = record { path = path; at = record { start = start; end = end }; last = last }

next_start : (path : List (List ℕ)) (text : List ℕ) (a b c : ℕ) → start_of (path ++ text ∷ []) (start_of path a b) c ≡ start_of path a b
next_start [] text a b c = refl
next_start (x ∷ xs) text a b c = refl

more_are : (words : Words) (t : Token) (ts : List Token)
    → more_words (one_more words t) ts ≡ made (words.path ++ map text_of (t ∷ ts)) (start_of words.path words.at.start t.at.start) (last_of t ts).at.end (last_of t ts).kind
more_are words t [] = refl
more_are words t (u ∷ us) = more_are (one_more words t) u us
    ∙ ap (λ path. made path (start_of (words.path ++ t.text ∷ []) (start_of words.path words.at.start t.at.start) u.at.start) (last_of u us).at.end (last_of u us).kind) (append_assoc words.path (t.text ∷ []) (map text_of (u ∷ us)))
    ∙ ap (λ start. made (words.path ++ map text_of (t ∷ u ∷ us)) start (last_of u us).at.end (last_of u us).kind) (next_start words.path t.text words.at.start t.at.start u.at.start)

pub words_more : (ts : List Token) → words_of ts ≡ more_words (words_of []) ts
words_more [] = refl
words_more (t ∷ ts) = sym (more_are (words_of []) t ts)

pub begin_words : (t : Token) (ts : List Token) → words_of (t ∷ ts) ≡ more_words (one_more (words_of []) t) ts
begin_words t ts = words_more (t ∷ ts)

with_last : (words : Words) (ts : List Token) (t : Token) → more_words words (ts ++ t ∷ []) ≡ one_more (more_words words ts) t
with_last words [] t = refl
with_last words (u ∷ us) t = with_last (one_more words u) us t

pub words_and_last : (ts : List Token) (t : Token) → words_to ts t ≡ one_more (words_of ts) t
words_and_last ts t = words_more (ts ++ t ∷ []) ∙ with_last (words_of []) ts t ∙ ap (λ words. one_more words t) (sym (words_more ts))

-- The words before the last, and then it.
pub read_words_to : (p : Kinds) (kind : Kind) (ts : List Token)
    → read (read_in full) (seq words_to outer_names (tok p kind same)) ts ≡ then_read (read (read_in full) outer_words ts) (λ words mid. then_read (read_token p same mid) (pure (one_more words)))
unfolding outer_words
read_words_to p kind ts = outer (read (read_in full) outer_names ts)
  where
    inner : (us : List Token) (o : Outcome Token) → then_read o (pure (words_to us)) ≡ then_read o (pure (one_more (words_of us)))
    inner us (Ok r) = ap (λ words. Ok (words, r.1)) (words_and_last us r.0)
    inner us (Err e) = refl

    outer : (o : Outcome (List Token)) → then_read o (λ us mid. then_read (read_token p same mid) (pure (words_to us))) ≡ then_read (then_read o (λ us mid. Ok (words_of us, mid))) (λ words mid. then_read (read_token p same mid) (pure (one_more words)))
    outer (Ok r) = inner r.0 (read_token p same r.1)
    outer (Err e) = refl

-- ---- the loops

-- What comes of words, with those that are still to be read.
abbrev pub with_constants : Words → Stage → List Token → Outcome Words
with_constants = with_stages full more_words name_leads constant_part

pub constants_begin : (ts : List Token) → read (read_in full) constants ts ≡ then_read (read_token (is k.Constant) (and_stage at.Open) ts) (λ x mid. with_constants (one_more (words_of []) x.0) x.1 mid)
unfolding constants
constants_begin ts = begin_stages full words_of (tok (is k.Constant) k.Constant (and_stage at.Open)) name_leads constant_part (one_more (words_of [])) one_more more_words begin_words ts

pub constants_step : (words : Words) (ts : List Token) → true ≡ begins (is k.ColonColon) ts
    → with_constants words at.Open ts ≡ then_read (read (read_in full) (constant_part at.Open) ts) (λ x mid. with_constants (one_more words x.0) x.1 mid)
constants_step words ts b = step_stages full words_of (tok (is k.Constant) k.Constant (and_stage at.Open)) name_leads constant_part (one_more (words_of [])) one_more more_words (λ s. refl) (λ s. refl) (λ c x xs. refl) words at.Open ts b

pub constants_end : (words : Words) (ts : List Token) → false ≡ begins (is k.ColonColon) ts → with_constants words at.Open ts ≡ Ok (words, ts)
constants_end words ts b = end_stages full words_of (tok (is k.Constant) k.Constant (and_stage at.Open)) name_leads constant_part (one_more (words_of [])) one_more more_words (λ s. refl) (λ s. refl) words at.Open ts b

pub constants_smaller : (ts mid : List Token) (x : Token × Stage) → read (read_in full) (constant_part at.Open) ts ≡ Ok (x, mid) → length mid < length ts
constants_smaller ts mid x e = smaller_stages full words_of (tok (is k.Constant) k.Constant (and_stage at.Open)) name_leads constant_part (one_more (words_of [])) one_more more_words (λ s. refl) (λ s. refl) at.Open ts mid x e

abbrev pub with_outer : Words → List Token → Outcome Words
with_outer = with_each full more_words outer_part

pub outer_begin : (ts : List Token) → read (read_in full) outer_words ts ≡ with_outer (words_of []) ts
unfolding outer_words
outer_begin ts = begin_each full words_of outer_part (words_of []) one_more more_words words_more ts

pub outer_step : (words : Words) (ts : List Token) → true ≡ begins (is k.Constant) ts → with_outer words ts ≡ then_read (read (read_in full) outer_part ts) (λ x mid. with_outer (one_more words x) mid)
outer_step words ts b = step_each full words_of outer_part (words_of []) one_more more_words refl refl (λ c x xs. refl) words ts b

pub outer_end : (words : Words) (ts : List Token) → false ≡ begins (is k.Constant) ts → with_outer words ts ≡ Ok (words, ts)
outer_end words ts b = end_each full words_of outer_part (words_of []) one_more more_words refl refl words ts b

pub outer_smaller : (ts mid : List Token) (x : Token) → read (read_in full) outer_part ts ≡ Ok (x, mid) → length mid < length ts
outer_smaller ts mid x e = smaller_each full words_of outer_part (words_of []) one_more more_words refl refl ts mid x e

part_fine : (e : Ends) (s : Stage) → fine (name_part (ends_of e) s) ≡ true
part_fine ends.Interface s = refl
part_fine ends.Type s = refl
part_fine ends.LoneType s = refl

abbrev pub with_words : Ends → Words → Stage → List Token → Outcome Words
with_words e = with_stages full more_words name_leads (name_part (ends_of e))

pub words_begin : (lone e : Ends) (ts : List Token) → read (read_in full) (words_by lone e) ts ≡ then_read (read (read_in full) (last_word (ends_of lone)) ts) (λ x mid. with_words e (one_more (words_of []) x.0) x.1 mid)
unfolding words_by
words_begin lone e ts = begin_stages full words_of (last_word (ends_of lone)) name_leads (name_part (ends_of e)) (one_more (words_of [])) one_more more_words begin_words ts

pub words_step : (lone e : Ends) (words : Words) (s : Stage) (ts : List Token) → true ≡ begins (name_leads s) ts
    → with_words e words s ts ≡ then_read (read (read_in full) (name_part (ends_of e) s) ts) (λ x mid. with_words e (one_more words x.0) x.1 mid)
words_step lone e words s ts b = step_stages full words_of (last_word (ends_of lone)) name_leads (name_part (ends_of e)) (one_more (words_of [])) one_more more_words (part_fine e) (λ s. refl) (λ c x xs. refl) words s ts b

pub words_end : (lone e : Ends) (words : Words) (s : Stage) (ts : List Token) → false ≡ begins (name_leads s) ts → with_words e words s ts ≡ Ok (words, ts)
words_end lone e words s ts b = end_stages full words_of (last_word (ends_of lone)) name_leads (name_part (ends_of e)) (one_more (words_of [])) one_more more_words (part_fine e) (λ s. refl) words s ts b

pub words_smaller : (lone e : Ends) (s : Stage) (ts mid : List Token) (x : Token × Stage) → read (read_in full) (name_part (ends_of e) s) ts ≡ Ok (x, mid) → length mid < length ts
words_smaller lone e s ts mid x h = smaller_stages full words_of (last_word (ends_of lone)) name_leads (name_part (ends_of e)) (one_more (words_of [])) one_more more_words (part_fine e) (λ s. refl) s ts mid x h
