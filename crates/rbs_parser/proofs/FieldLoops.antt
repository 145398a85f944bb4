-- The loop over the fields of a record, of which a comma may end the list.
use Rattle.std.proofs.Common.{◌≡◌, ◌<◌, true, false, if◌then◌else◌, List, [], ◌∷◌, ◌++◌, length, Option, Some, None, Ok, Err, refl, sym, ◌∙◌, ap, append_assoc}
use Rattle.std.proofs.lemmas.List.{append-nil}
use Rattle.rbs_lexer.specs.Tokens.{Token}
use Rattle.rbs_lexer.specs.declared.kind.Kind.TheVariants as k
use Rattle.rbs_tree.specs.declared.types.Field.{Field}
use Rattle.rbs_grammar.specs.declared.stage.Stage.{Stage}
use Rattle.rbs_grammar.specs.declared.stage.Stage.TheVariants as stage
use Rattle.rbs_grammar.specs.Rules.{is, no_kind, is_word}
use Rattle.rbs_grammar.specs.Grammar.{eps, alt, chain, fine, begins, Outcome, then_read, pure, read}
use Rattle.rbs_grammar.specs.Parts.{same, behind, map_value}
use Rattle.rbs_grammar.specs.Levels.{Room, read_in}
use Rattle.rbs_grammar.specs.Types.{a_type, field, some_field, fields_lead, field_part, somes}
use Rattle.rbs_parser.specs.Reading.{after}
use Rattle.rbs_grammar.proofs.Acts.{if_true, if_false}
use Rattle.rbs_parser.proofs.Loops.{after_read, smaller_rest}
use Rattle.rbs_parser.proofs.Stages.{with_stages, begin_stages, step_stages, end_stages}

abbrev put : List Field → Option Field → List Field
put found None = found
put found (Some f) = found ++ f ∷ []

abbrev with_somes : List Field → List (Option Field) → List Field
with_somes found xs = found ++ somes xs

first_put : (x : Option Field) (xs : List (Option Field)) → somes (x ∷ xs) ≡ with_somes (put [] x) xs
first_put None xs = refl
first_put (Some f) xs = refl

next_put : (found : List Field) (x : Option Field) (xs : List (Option Field)) → with_somes found (x ∷ xs) ≡ with_somes (put found x) xs
next_put found None xs = refl
next_put found (Some f) xs = sym (append_assoc found (f ∷ []) (somes xs))

fine_part : (s : Stage) → fine (field_part s) ≡ true
unfolding field a_type
fine_part s = refl

fine_field : fine (behind k.Comma field) ≡ true
unfolding field a_type
fine_field = refl

none_begins : (ts : List Token) → false ≡ begins no_kind ts
none_begins [] = refl
none_begins (t ∷ ts) = refl

-- The fields that the loop has, with those that are still to be read.
abbrev pub with_fields : Room → List Field → List Token → Outcome (List Field)
with_fields n found ts = with_stages n with_somes fields_lead field_part found stage.Open ts

module _ (n : Room) where
  pub begin_fields : (ts : List Token) → read (read_in n) (chain somes (map_value some_field field) fields_lead field_part) ts ≡ then_read (read (read_in n) field ts) (λ x mid. with_fields n (x ∷ []) mid)
  begin_fields ts = begin_stages n somes (map_value some_field field) fields_lead field_part (put []) put with_somes first_put ts ∙ go (read (read_in n) field ts)
    where
      go : (o : Outcome Field) → then_read (then_read o (λ f mid. then_read (Ok (tt {0}, mid)) (pure (λ _. some_field f)))) (λ x mid. with_stages n with_somes fields_lead field_part (put [] x.0) x.1 mid) ≡ then_read o (λ x mid. with_fields n (x ∷ []) mid)
      go (Ok r) = refl
      go (Err e) = refl

  abbrev some_part : Outcome Field → Outcome (Option Field × Stage)
  some_part o = then_read o (λ f mid. then_read (Ok (tt {0}, mid)) (pure (λ _. some_field f)))

  -- what is read behind a comma
  abbrev behind_comma : List Token → Outcome (Option Field × Stage)
  behind_comma ts = if begins is_word ts then some_part (read (read_in n) field ts) else Ok ((None, stage.Done), ts)

  -- what comes of it
  abbrev put_in : List Field → Outcome (Option Field × Stage) → Outcome (List Field)
  put_in found o = then_read (then_read o (pure same)) (λ x mid. with_stages n with_somes fields_lead field_part (put found x.0) x.1 mid)

  part_read : (ts : List Token) → true ≡ begins (is k.Comma) ts → read (read_in n) (field_part stage.Open) ts ≡ then_read (behind_comma (after (is k.Comma) ts)) (pure same)
  unfolding field
  part_read ts b = after_read k.Comma (read (read_in n) (alt (map_value some_field field) (eps (None, stage.Done)))) ts (sym b)

  step_part : (found : List Field) (ts at : List Token) → true ≡ begins (is k.Comma) ts → at ≡ after (is k.Comma) ts → with_fields n found ts ≡ put_in found (behind_comma at)
  step_part found ts at b a = step_stages n somes (map_value some_field field) fields_lead field_part (put []) put with_somes fine_part (λ s. refl) next_put found stage.Open ts b
      ∙ ap (λ (o : Outcome (Option Field × Stage)). then_read o (λ x mid. with_stages n with_somes fields_lead field_part (put found x.0) x.1 mid)) (part_read ts b)
      ∙ ap (λ (l : List Token). put_in found (behind_comma l)) (sym a)

  pub step_fields : (found : List Field) (ts at : List Token) → true ≡ begins (is k.Comma) ts → at ≡ after (is k.Comma) ts → true ≡ begins is_word at → with_fields n found ts ≡ then_read (read (read_in n) field at) (λ x mid. with_fields n (found ++ x ∷ []) mid)
  step_fields found ts at b a w = step_part found ts at b a ∙ ap (put_in found) (if_true _ _ _ (sym w)) ∙ go (read (read_in n) field at)
    where
      go : (o : Outcome Field) → put_in found (some_part o) ≡ then_read o (λ x mid. with_fields n (found ++ x ∷ []) mid)
      go (Ok r) = refl
      go (Err e) = refl

  -- With no field behind it, the comma ends the list.
  pub end_comma : (found : List Field) (ts at : List Token) → true ≡ begins (is k.Comma) ts → at ≡ after (is k.Comma) ts → false ≡ begins is_word at → with_fields n found ts ≡ Ok (found, at)
  end_comma found ts at b a w = step_part found ts at b a ∙ ap (put_in found) (if_false _ _ _ (sym w))
      ∙ end_stages n somes (map_value some_field field) fields_lead field_part (put []) put with_somes fine_part (λ s. refl) found stage.Done at (none_begins at)
      ∙ ap (λ l. Ok (l, at)) (append-nil found)

  pub end_fields : (found : List Field) (ts at : List Token) → false ≡ begins (is k.Comma) ts → at ≡ after (is k.Comma) ts → with_fields n found ts ≡ Ok (found, at)
  unfolding after
  end_fields found ts at b e = end_stages n somes (map_value some_field field) fields_lead field_part (put []) put with_somes fine_part (λ s. refl) found stage.Open ts b
      ∙ ap (λ l. Ok (l, ts)) (append-nil found) ∙ ap (λ l. Ok (found, l)) (sym (e ∙ if_false _ _ _ (sym b)))

  pub smaller_fields : (ts at mid : List Token) (x : Field) → true ≡ begins (is k.Comma) ts → at ≡ after (is k.Comma) ts → read (read_in n) field at ≡ Ok (x, mid) → length mid < length ts
  smaller_fields = smaller_rest n k.Comma field fine_field
