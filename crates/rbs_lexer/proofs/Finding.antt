-- The longest front of a text that passes a test, or has a reading, and how it is put together from parts.
use Rattle.std.proofs.Common.{◌≡◌, ℕ, zero, suc, ◌+◌, ◌<◌, ◌≤◌, ◌==◌, nat_lt, Bool, true, false, ◌&&◌, ◌||◌, List, [], ◌∷◌, length, take, drop, Option, Some, None, refl, ◌∙◌, subst, arith}
use Rattle.std.specs.Prelude.{if◌then◌else◌}
use Rattle.std.specs.Str.{IsUtf8, IsCharBoundary}
use Rattle.std.proofs.lemmas.Bool.Decides.{nat_tests}
use Rattle.std.proofs.lemmas.Str.{IsUtf8-drop, IsCharBoundary-after_ascii, IsCharBoundary-from_rest}
use Rattle.rbs_lexer.specs.declared.kind.Kind.{Kind}
use Rattle.rbs_lexer.specs.declared.reading.Reading.{Reading}
use Rattle.rbs_lexer.specs.declared.reading.Reading.TheVariants.{Skipped}
use Rattle.rbs_lexer.specs.declared.reading.Found.{Found}
use Rattle.rbs_lexer.specs.Runs.{Language, or_else, either, of_kind}
use Rattle.rbs_lexer.specs.Finds.{longer_by, longer_len, longer, found_of, skipped}

-- a test of a run and what follows it
abbrev pub Test : Type 0
Test = List ℕ → List ℕ → Bool

-- The first len bytes are the longest front of the text that passes, and the text can be cut there.
pub record LongestFront (passes : Test) (text : List ℕ) (len : ℕ) : Type 0 where
  pub some : 0 < len
  pub within : len ≤ length text
  pub pass : passes (take len text) (drop len text) ≡ true
  pub longest : (n : ℕ) → len < n → n ≤ length text → passes (take n text) (drop n text) ≡ false
  pub cut : IsCharBoundary text len

-- no front passes
abbrev pub NonePasses : Test → List ℕ → Type 0
NonePasses passes text = (n : ℕ) → n ≤ length text → passes (take n text) (drop n text) ≡ false

-- the longest front that passes is this long, if one passes
abbrev pub Finds : Test → List ℕ → Option ℕ → Type 0
Finds passes text None = NonePasses passes text
Finds passes text (Some len) = LongestFront passes text len

-- The first bytes are the longest front that has a reading in the language, and this is its reading.
pub record LongestReading (language : Language) (text : List ℕ) (found : Found) : Type 0 where
  pub some : 0 < found.len
  pub within : found.len ≤ length text
  pub reads : language (take found.len text) (drop found.len text) ≡ Some found.reading
  pub longest : (n : ℕ) → found.len < n → n ≤ length text → language (take n text) (drop n text) ≡ None
  pub cut : IsCharBoundary text found.len

abbrev pub NoReading : Language → List ℕ → Type 0
NoReading language text = (n : ℕ) → n ≤ length text → language (take n text) (drop n text) ≡ None

-- the longest front that has a reading is this, if one has
abbrev pub FindsReading : Language → List ℕ → Option Found → Type 0
FindsReading language text None = NoReading language text
FindsReading language text (Some found) = LongestReading language text found

-- ---- tests

pub or_false : (a b : Bool) → a ≡ false → b ≡ false → (a || b) ≡ false
or_false false b p q = q
or_false true b p q = cc

pub or_left : (a b : Bool) → a ≡ true → (a || b) ≡ true
or_left true b p = refl
or_left false b p = cc

pub or_right : (a b : Bool) → b ≡ true → (a || b) ≡ true
or_right true b p = refl
or_right false b p = p

pub and_true : (a b : Bool) → a ≡ true → b ≡ true → (a && b) ≡ true
and_true true b p q = q
and_true false b p q = cc

pub and_is : (a b : Bool) → a ≡ true → (a && b) ≡ b
and_is true b p = refl
and_is false b p = cc

pub and_left : (a b : Bool) → a ≡ false → (a && b) ≡ false
and_left false b p = refl
and_left true b p = cc

pub and_right : (a b : Bool) → b ≡ false → (a && b) ≡ false
and_right false b p = refl
and_right true b p = p

pub if_true : {A : Type 0} (c : Bool) (x y : A) → c ≡ true → (if c then x else y) ≡ x
if_true true x y p = refl
if_true false x y p = cc

pub if_false : {A : Type 0} (c : Bool) (x y : A) → c ≡ false → (if c then x else y) ≡ y
if_false false x y p = refl
if_false true x y p = cc

pub below : (n m : ℕ) → nat_lt n m ≡ true → n < m
below n m h = grind (arith, nat_tests)

pub not_below : (n m : ℕ) → nat_lt n m ≡ false → m ≤ n
not_below n m h = grind (arith, nat_tests)

pub is_byte : (b c : ℕ) → (b == c) ≡ true → b ≡ c
is_byte b c h = grind (arith, nat_tests)

-- ---- what passes one of two

pub finds_or : (a b : Test) (text : List ℕ) (o p : Option ℕ) → Finds a text o → Finds b text p → Finds (λ run next. a run next || b run next) text (longer_len o p)
finds_or a b text None None x y = λ n h. or_false _ _ (x n h) (y n h)
finds_or a b text None (Some m) x y = record {
  some = y.some;
  within = y.within;
  pass = or_right _ _ y.pass;
  longest = λ n l h. or_false _ _ (x n h) (y.longest n l h);
  cut = y.cut;
}
finds_or a b text (Some k) None x y = record {
  some = x.some;
  within = x.within;
  pass = or_left _ _ x.pass;
  longest = λ n l h. or_false _ _ (x.longest n l h) (y n h);
  cut = x.cut;
}
finds_or a b text (Some k) (Some m) x y = go (nat_lt k m) refl
  where
    go : (t : Bool) → nat_lt k m ≡ t → Finds (λ run next. a run next || b run next) text (if t then Some m else Some k)
    go true e = let l : k < m = below k m e in record {
      some = y.some;
      within = y.within;
      pass = or_right _ _ y.pass;
      longest = λ n g h. or_false _ _ (x.longest n (omega arith) h) (y.longest n g h);
      cut = y.cut;
    }
    go false e = let l : m ≤ k = not_below k m e in record {
      some = x.some;
      within = x.within;
      pass = or_left _ _ x.pass;
      longest = λ n g h. or_false _ _ (x.longest n g h) (y.longest n (omega arith) h);
      cut = x.cut;
    }

-- ---- what passes behind a byte

pub tail_utf8 : (b : ℕ) (bs : List ℕ) → b < 128 → IsUtf8 (b ∷ bs) → IsUtf8 bs
tail_utf8 b bs a u = IsUtf8-drop (b ∷ bs) 1 u (IsCharBoundary-after_ascii (b ∷ bs) 0 u (omega arith) a)

pub tail_cut : (b : ℕ) (bs : List ℕ) (n : ℕ) → IsCharBoundary bs n → IsCharBoundary (b ∷ bs) (suc n)
tail_cut b bs n c =
    let P : ℕ → Type 0 = IsCharBoundary (b ∷ bs) in
    let e : 1 + n ≡ suc n = omega arith in
    subst P e (IsCharBoundary-from_rest (b ∷ bs) 1 n (omega arith) c)

pub one_more : (passes : Test) (text : List ℕ) (n : ℕ) → LongestFront passes text (suc n) → LongestFront passes text (1 + n)
one_more passes text n l = let e : suc n ≡ 1 + n = omega arith in subst (λ m. LongestFront passes text m) e l

-- One byte more in front, where the test then goes on with another.
pub finds_after : (f g : List ℕ → Bool) (b : ℕ) (bs : List ℕ) (o : Option ℕ) → f [] ≡ false → ((run : List ℕ) → f (b ∷ run) ≡ g run) → Finds (λ run next. g run) bs o
    → Finds (λ run next. f run) (b ∷ bs) (longer_by 1 o)
finds_after f g b bs None z e x = none
  where
    none : (n : ℕ) → n ≤ suc (length bs) → f (take n (b ∷ bs)) ≡ false
    none zero h = z
    none (suc n) h = e (take n bs) ∙ x n (omega arith)
finds_after f g b bs (Some m) z e x = one_more (λ run next. f run) (b ∷ bs) m (record {
  some = omega arith;
  within = (let w = x.within in omega arith);
  pass = e (take m bs) ∙ x.pass;
  longest = more;
  cut = tail_cut b bs m x.cut;
})
  where
    more : (n : ℕ) → suc m < n → n ≤ suc (length bs) → f (take n (b ∷ bs)) ≡ false
    more zero l h = z
    more (suc n) l h = e (take n bs) ∙ x.longest n (omega arith) (omega arith)

-- No front passes where the test fails at the first byte.
pub none_after : (f : List ℕ → Bool) (b : ℕ) (bs : List ℕ) → f [] ≡ false → ((run : List ℕ) → f (b ∷ run) ≡ false) → NonePasses (λ run next. f run) (b ∷ bs)
none_after f b bs z e zero h = z
none_after f b bs z e (suc n) h = e (take n bs)

pub none_in_empty : (f : List ℕ → Bool) → f [] ≡ false → NonePasses (λ run next. f run) []
none_in_empty f z zero h = z
none_in_empty f z (suc n) h = z

-- ---- readings

or_else_none : (a b : Option Reading) → a ≡ None → b ≡ None → or_else a b ≡ None
or_else_none None b p q = q
or_else_none (Some r) b p q = cc

or_else_first : (a b : Option Reading) (r : Reading) → a ≡ Some r → or_else a b ≡ Some r
or_else_first (Some s) b r p = p
or_else_first None b r p = cc

or_else_second : (a b : Option Reading) (r : Reading) → a ≡ None → b ≡ Some r → or_else a b ≡ Some r
or_else_second None b r p q = q
or_else_second (Some s) b r p q = cc

pub reads_either : (a b : Language) (text : List ℕ) (o p : Option Found) → FindsReading a text o → FindsReading b text p → FindsReading (either a b) text (longer o p)
reads_either a b text None None x y = λ n h. or_else_none _ _ (x n h) (y n h)
reads_either a b text None (Some m) x y = record {
  some = y.some;
  within = y.within;
  reads = or_else_second _ _ m.reading (x m.len y.within) y.reads;
  longest = λ n l h. or_else_none _ _ (x n h) (y.longest n l h);
  cut = y.cut;
}
reads_either a b text (Some k) None x y = record {
  some = x.some;
  within = x.within;
  reads = or_else_first _ _ k.reading x.reads;
  longest = λ n l h. or_else_none _ _ (x.longest n l h) (y n h);
  cut = x.cut;
}
reads_either a b text (Some k) (Some m) x y = go (nat_lt k.len m.len) refl
  where
    go : (t : Bool) → nat_lt k.len m.len ≡ t → FindsReading (either a b) text (if t then Some m else Some k)
    go true e = let l : k.len < m.len = below k.len m.len e in record {
      some = y.some;
      within = y.within;
      reads = or_else_second _ _ m.reading (x.longest m.len l y.within) y.reads;
      longest = λ n g h. or_else_none _ _ (x.longest n (omega arith) h) (y.longest n g h);
      cut = y.cut;
    }
    go false e = let l : m.len ≤ k.len = not_below k.len m.len e in record {
      some = x.some;
      within = x.within;
      reads = or_else_first _ _ k.reading x.reads;
      longest = λ n g h. or_else_none _ _ (x.longest n g h) (y.longest n (omega arith) h);
      cut = x.cut;
    }

pub reads_of_kind : (kind : Kind) (a : Test) (text : List ℕ) (o : Option ℕ) → Finds a text o → FindsReading (λ run next. of_kind kind (a run next)) text (found_of kind o)
reads_of_kind kind a text None x = λ n h. if_false _ _ _ (x n h)
reads_of_kind kind a text (Some m) x = record {
  some = x.some;
  within = x.within;
  reads = if_true _ _ _ x.pass;
  longest = λ n l h. if_false _ _ _ (x.longest n l h);
  cut = x.cut;
}

pub reads_skipped : (a : Test) (text : List ℕ) (o : Option ℕ) → Finds a text o → FindsReading (λ run next. if a run next then Some Skipped else None) text (skipped o)
reads_skipped a text None x = λ n h. if_false _ _ _ (x n h)
reads_skipped a text (Some m) x = record {
  some = x.some;
  within = x.within;
  reads = if_true _ _ _ x.pass;
  longest = λ n l h. if_false _ _ _ (x.longest n l h);
  cut = x.cut;
}

-- A language that reads each front alike finds the same.
pub reads_same : (a b : Language) (text : List ℕ) (o : Option Found) → ((n : ℕ) → b (take n text) (drop n text) ≡ a (take n text) (drop n text)) → FindsReading a text o → FindsReading b text o
reads_same a b text None e x = λ n h. e n ∙ x n h
reads_same a b text (Some f) e x = record {
  some = x.some;
  within = x.within;
  reads = e f.len ∙ x.reads;
  longest = λ n l h. e n ∙ x.longest n l h;
  cut = x.cut;
}

-- A test that passes each front alike finds the same.
pub finds_same : (a b : Test) (text : List ℕ) (o : Option ℕ) → ((n : ℕ) → b (take n text) (drop n text) ≡ a (take n text) (drop n text)) → Finds a text o → Finds b text o
finds_same a b text None e x = λ n h. e n ∙ x n h
finds_same a b text (Some m) e x = record {
  some = x.some;
  within = x.within;
  pass = e m ∙ x.pass;
  longest = λ n l h. e n ∙ x.longest n l h;
  cut = x.cut;
}
