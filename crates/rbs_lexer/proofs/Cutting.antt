-- A text is cut into pieces in one way.
use Rattle.std.proofs.Common.{◌≡◌, ℕ, ◌+◌, ◌<◌, ◌≤◌, ◌-◌, List, [], ◌∷◌, ◌++◌, length, take, drop, Option, Some, None, refl, sym, ◌∙◌, ap, subst, arith, inl, inr, ⊎_elim}
use Rattle.std.specs.Prelude.{chars, slice_index, slice_range}
use Rattle.std.specs.Char.{len_utf8}
use Rattle.std.specs.Str.{IsUtf8, IsCharBoundary}
use Rattle.std.proofs.lemmas.Str.{IsUtf8-nil, IsUtf8-drop, IsCharBoundary-start, IsCharBoundary-from_rest}
use Rattle.std.proofs.lemmas.List.{drop-drop, drop_all, length-drop, length-take}
use Rattle.src_text.specs.declared.span.Span.{Span}
use Rattle.rbs_lexer.specs.declared.place.Place.{Place}
use Rattle.rbs_lexer.specs.Tokens.{Token}
use Rattle.rbs_lexer.specs.declared.walk.Walk.{Walk}
use Rattle.rbs_lexer.specs.declared.reading.Reading.{Reading}
use Rattle.rbs_lexer.specs.declared.reading.Reading.TheVariants as is
use Rattle.rbs_lexer.specs.declared.reading.Found.{Found}
use Rattle.rbs_lexer.specs.Runs.{reading}
use Rattle.rbs_lexer.specs.Finds.{front_at}
use Rattle.rbs_lexer.specs.Lexing.{Longest, NoneReads, NoToken, Piece, token, gap, bytes_of, reading_of, start, past, past_all, IsFront, IsCut, tokens_of, AreTokens, IsBad, IsCutShort, IsLexed, span_of_first}
use Rattle.rbs_lexer.proofs.Finding.{FindsReading, LongestReading}
use Rattle.rbs_lexer.proofs.Fronts.{front_found}

-- ---- one piece more at the end

past_more : (ps : List Piece) (w : Walk) (p : Piece) → past_all w (ps ++ p ∷ []) ≡ past (past_all w ps) p
past_more [] w p = refl
past_more (q ∷ ps) w p = past_more ps (past w q) p

cut_more : (ps : List Piece) (w : Walk) (text rest : List ℕ) (p : Piece) → IsCut w text ps rest → IsFront (past_all w ps).place rest p
    → IsCut w text (ps ++ p ∷ []) (drop (length (bytes_of p)) rest)
cut_more [] w text rest p c f = (subst (λ l. IsFront w.place l p) (sym c) f, ap (drop (length (bytes_of p))) c)
cut_more (q ∷ ps) w text rest p c f = (c.0, cut_more ps (past w q) _ rest p c.1 f)

tokens_more : (ps : List Piece) (w : Walk) (p : Piece) → tokens_of w (ps ++ p ∷ []) ≡ tokens_of w ps ++ tokens_of (past_all w ps) (p ∷ [])
tokens_more [] w p = refl
tokens_more (token kind bytes ∷ ps) w p = ap (λ l. record { kind = kind; text = bytes; at = record { start = w.at; end = w.at + length bytes }; begins_line = w.line_ended } ∷ l)
    (tokens_more ps (past w (token kind bytes)) p)
tokens_more (gap bytes ∷ ps) w p = tokens_more ps (past w (gap bytes)) p

-- ---- one way only

none≢some : (r : Reading) → ◌≡◌ {A = Option Reading} None (Some r) → ⊥
none≢some r h = cc

some_same : (r s : Reading) → Some r ≡ Some s → r ≡ s
some_same r s h = cc

module _ (place : Place) (text : List ℕ) where
  not_longer : (r s : Reading) (n m : ℕ) → Longest place text r n → Longest place text s m → n < m → ⊥
  not_longer r s n m a b h = none≢some s (sym (a.longest m h b.within) ∙ b.reads)

  same_len : (r s : Reading) (n m : ℕ) → Longest place text r n → Longest place text s m → n ≡ m
  same_len r s n m a b =
      let less : n < m → ⊥ = not_longer r s n m a b in
      let more : m < n → ⊥ = not_longer s r m n b a in
      omega arith

  same_reading : (r s : Reading) (n m : ℕ) → Longest place text r n → Longest place text s m → r ≡ s
  same_reading r s n m a b = some_same r s (sym a.reads ∙ ap (λ k. reading place (take k text) (drop k text)) (same_len r s n m a b) ∙ b.reads)

  same_bytes : (p q : Piece) → IsFront place text p → IsFront place text q → bytes_of p ≡ bytes_of q
  same_bytes p q a b = a.bytes ∙ ap (λ k. take k text) (same_len (reading_of p) (reading_of q) (length (bytes_of p)) (length (bytes_of q)) a.longest b.longest) ∙ sym b.bytes

  never_refused : (p : Piece) → reading_of p ≡ is.Refused → ⊥
  never_refused (token kind bytes) h = cc
  never_refused (gap bytes) h = cc

  same_piece : (p q : Piece) → reading_of p ≡ reading_of q → bytes_of p ≡ bytes_of q → p ≡ q
  same_piece (token kind bytes) (token other more) r b = let k : kind ≡ other = cc in ap (λ l. token kind l) b ∙ ap (λ j. token j more) k
  same_piece (token kind bytes) (gap more) r b = cc
  same_piece (gap bytes) (token other more) r b = cc
  same_piece (gap bytes) (gap more) r b = ap gap b

  front_same : (p q : Piece) → IsFront place text p → IsFront place text q → p ≡ q
  front_same p q a b = same_piece p q (same_reading (reading_of p) (reading_of q) (length (bytes_of p)) (length (bytes_of q)) a.longest b.longest) (same_bytes p q a b)

  no_front : (p : Piece) → NoToken place text → IsFront place text p → ⊥
  no_front p n f = ⊎_elim (λ h. none≢some (reading_of p) (sym (h (length (bytes_of p)) f.longest.within) ∙ f.longest.reads))
      (λ h. never_refused p (same_reading (reading_of p) is.Refused (length (bytes_of p)) h.0 f.longest h.1)) n

pub one_cut : (ps qs : List Piece) (w : Walk) (text r s : List ℕ) → IsCut w text ps r → IsCut w text qs s → NoToken (past_all w ps).place r → NoToken (past_all w qs).place s → (ps ≡ qs) × (r ≡ s)
one_cut [] [] w text r s a b n m = (refl, sym a ∙ b)
one_cut [] (q ∷ qs) w text r s a b n m = absurd (no_front w.place text q (subst (NoToken w.place) (sym a) n) b.0)
one_cut (p ∷ ps) [] w text r s a b n m = absurd (no_front w.place text p (subst (NoToken w.place) (sym b) m) a.0)
one_cut (p ∷ ps) (q ∷ qs) w text r s a b n m =
    let e = front_same w.place text p q a.0 b.0 in
    let there : IsCut (past w q) (drop (length (bytes_of q)) text) ps r = subst (λ z. IsCut (past w z) (drop (length (bytes_of z)) text) ps r) e a.1 in
    let rest = one_cut ps qs (past w q) _ r s there b.1 (subst (λ z. NoToken (past_all (past w z) ps).place r) e n) m in
    (ap (λ z. z ∷ ps) e ∙ ap (λ l. q ∷ l) rest.0, rest.1)

-- ---- what is found is the front

none_of : (place : Place) (text : List ℕ) (o : Option Found) → length text ≡ 0 → FindsReading (reading place) text o → NoneReads place text
none_of place text None l x = x
none_of place text (Some f) l x = absurd (let s = x.some in let w = x.within in omega arith)

pub none_at_end : (place : Place) → NoToken place []
none_at_end place = inl (none_of place [] (front_at place []) refl (front_found place [] IsUtf8-nil))

pub front_longest : (place : Place) (text : List ℕ) (f : Found) → IsUtf8 text → Some f ≡ front_at place text → LongestReading (reading place) text f
front_longest place text f u e = subst (λ (o : Option Found). FindsReading (reading place) text o) (sym e) (front_found place text u)

is_longest : (place : Place) (text : List ℕ) (f : Found) → LongestReading (reading place) text f → Longest place text f.reading f.len
is_longest place text f x = record { within = x.within; reads = x.reads; longest = x.longest }

pub no_token_none : (place : Place) (text : List ℕ) → IsUtf8 text → None ≡ front_at place text → NoToken place text
no_token_none place text u e = inl (subst (λ (o : Option Found). FindsReading (reading place) text o) (sym e) (front_found place text u))

pub no_token_refused : (place : Place) (text : List ℕ) (len : ℕ) → IsUtf8 text → Some (record { reading = is.Refused; len = len }) ≡ front_at place text → NoToken place text
no_token_refused place text len u e = inr (len, is_longest place text (record { reading = is.Refused; len = len }) (front_longest place text (record { reading = is.Refused; len = len }) u e))

-- ---- the walk

-- Where a walk over a text stands, with the tokens that it met.
pub record Walked (text : List ℕ) (walk : Walk) (tokens : List Token) : Type 0 where
  pub pieces : List Piece
  pub cut : IsCut start text pieces (drop walk.at text)
  pub walked : past_all start pieces ≡ walk
  pub met : tokens ≡ tokens_of start pieces
  pub boundary : IsCharBoundary text walk.at

pub begins : (text : List ℕ) → IsUtf8 text → Walked text start []
begins text u = record { pieces = []; cut = refl; walked = refl; met = refl; boundary = IsCharBoundary-start text u }

past_at : (walk : Walk) (p : Piece) → (past walk p).at ≡ walk.at + length (bytes_of p)
past_at walk (token kind bytes) = refl
past_at walk (gap bytes) = refl

module _ (text : List ℕ) (u : IsUtf8 text) (walk : Walk) (tokens : List Token) (w : Walked text walk tokens) (p : Piece) (len : ℕ)
    (found : Some (record { reading = reading_of p; len = len }) ≡ front_at walk.place (drop walk.at text)) (run : bytes_of p ≡ take len (drop walk.at text)) where
  rest_utf8 : IsUtf8 (drop walk.at text)
  rest_utf8 = IsUtf8-drop text walk.at u w.boundary

  front_is : LongestReading (reading walk.place) (drop walk.at text) (record { reading = reading_of p; len = len })
  front_is = front_longest walk.place (drop walk.at text) (record { reading = reading_of p; len = len }) rest_utf8 found

  long : length (bytes_of p) ≡ len
  long = let e = ap length run in let l = length-take len (drop walk.at text) in let w = front_is.within in omega arith

  is_front : IsFront walk.place (drop walk.at text) p
  is_front = record {
    longest = subst (λ n. Longest walk.place (drop walk.at text) (reading_of p) n) (sym long) (is_longest walk.place (drop walk.at text) (record { reading = reading_of p; len = len }) front_is);
    bytes = run ∙ ap (λ n. take n (drop walk.at text)) (sym long);
  }

  at_is : (past walk p).at ≡ walk.at + length (bytes_of p)
  at_is = past_at walk p

  pub walks : Walked text (past walk p) (tokens ++ tokens_of walk (p ∷ []))
  walks = record {
    pieces = w.pieces ++ p ∷ [];
    cut = subst (λ l. IsCut start text (w.pieces ++ p ∷ []) l) (drop-drop (length (bytes_of p)) walk.at text ∙ ap (λ n. drop n text) (sym at_is))
        (cut_more w.pieces start text (drop walk.at text) p w.cut (subst (λ (v : Walk). IsFront v.place (drop walk.at text) p) (sym w.walked) is_front));
    walked = past_more w.pieces start p ∙ ap (λ (v : Walk). past v p) w.walked;
    met = ap (λ l. l ++ tokens_of walk (p ∷ [])) w.met ∙ ap (λ (v : Walk). tokens_of start w.pieces ++ tokens_of v (p ∷ [])) (sym w.walked) ∙ sym (tokens_more w.pieces start p);
    boundary = subst (IsCharBoundary text) (ap (λ n. walk.at + n) (sym long) ∙ sym at_is) (IsCharBoundary-from_rest text walk.at len w.boundary.0 front_is.cut);
  }

-- ---- at the end

module _ (text : List ℕ) (walk : Walk) (tokens : List Token) (w : Walked text walk tokens) where
  all_cut : length text ≤ walk.at → IsCut start text w.pieces []
  all_cut h = subst (IsCut start text w.pieces) (drop_all walk.at text h) w.cut

  pub ends : length text ≤ walk.at → AreTokens text tokens
  ends h = (w.pieces, all_cut h, w.met)

  pub same_tokens : length text ≤ walk.at → (these : List Token) → AreTokens text these → tokens ≡ these
  same_tokens h these t = w.met
      ∙ ap (tokens_of start) (one_cut w.pieces t.0 start text [] [] (all_cut h) t.1 (none_at_end (past_all start w.pieces).place) (none_at_end (past_all start t.0).place)).0 ∙ sym t.2

  not_empty : (rest : List ℕ) → rest ≡ [] → 0 < length rest → ⊥
  not_empty rest e l = let z = ap length e in omega arith

  pub none_bad : length text ≤ walk.at → (this : Span) → IsBad text this → ⊥
  none_bad h this b = not_empty b.rest (one_cut b.pieces w.pieces start text b.rest [] b.cut (all_cut h) b.no_token (none_at_end (past_all start w.pieces).place)).1 b.more

  -- where no token begins
  module _ (none : NoToken walk.place (drop walk.at text)) (more : walk.at < length text) where
    none_here : NoToken (past_all start w.pieces).place (drop walk.at text)
    none_here = subst (λ (v : Walk). NoToken v.place (drop walk.at text)) (sym w.walked) none

    some_left : 0 < length (drop walk.at text)
    some_left = let l = length-drop walk.at text in omega arith

    pub is_bad : (at : Span) → at.start ≡ walk.at → at.end ≡ walk.at + len_utf8 (slice_index (chars (drop walk.at text)) 0) → IsBad text at
    is_bad at s e = record {
      pieces = w.pieces;
      rest = drop walk.at text;
      cut = w.cut;
      no_token = none_here;
      more = some_left;
      starts = s ∙ ap (λ (v : Walk). v.at) (sym w.walked);
      ends = e ∙ ap (λ n. n + len_utf8 (slice_index (chars (drop walk.at text)) 0)) (sym s);
    }

    pub no_tokens : (these : List Token) → AreTokens text these → ⊥
    no_tokens these t = not_empty (drop walk.at text) (one_cut w.pieces t.0 start text (drop walk.at text) [] w.cut t.1 none_here (none_at_end (past_all start t.0).place)).1 some_left

    pub cut_short : IsCutShort text tokens (span_of_first walk.at (drop walk.at text))
    unfolding is_bad
    cut_short = (is_bad (span_of_first walk.at (drop walk.at text)) refl refl, w.met)

same_span : (a b : Span) → a.start ≡ b.start → a.end ≡ b.end → a ≡ b
same_span a b s e = λ i. record { start = s i; end = e i }

pub one_bad : (text : List ℕ) (a b : Span) → IsBad text a → IsBad text b → a ≡ b
one_bad text a b x y =
    let same = one_cut x.pieces y.pieces start text x.rest y.rest x.cut y.cut x.no_token y.no_token in
    let s : a.start ≡ b.start = x.starts ∙ ap (λ ps. (past_all start ps).at) same.0 ∙ sym y.starts in
    same_span a b s (x.ends ∙ ap (λ n. n + len_utf8 (slice_index (chars x.rest) 0)) s ∙ ap (λ l. b.start + len_utf8 (slice_index (chars l) 0)) same.1 ∙ sym y.ends)

pub one_before : (text : List ℕ) (a b : Span) (tokens these : List Token) → IsCutShort text tokens a → IsCutShort text these b → tokens ≡ these
one_before text a b tokens these x y =
    x.1 ∙ ap (tokens_of start) (one_cut x.0.pieces y.0.pieces start text x.0.rest y.0.rest x.0.cut y.0.cut x.0.no_token y.0.no_token).0 ∙ sym y.1

some_one : (a b : Span) → a ≡ b → Some a ≡ Some b
some_one a b e = ap Some e

-- At the text's end nothing else is lexed.
pub one_lexed : (text : List ℕ) (walk : Walk) (tokens : List Token) → Walked text walk tokens → length text ≤ walk.at
    → (these : List Token) (bad : Option Span) → IsLexed text these bad → (tokens ≡ these) × (None ≡ bad)
one_lexed text walk tokens w h these None l = (same_tokens text walk tokens w h these l, refl)
one_lexed text walk tokens w h these (Some at) l = absurd (none_bad text walk tokens w h at l.0)

-- Where no token begins nothing else is lexed.
pub one_short : (text : List ℕ) (walk : Walk) (tokens : List Token) → Walked text walk tokens → NoToken walk.place (drop walk.at text) → walk.at < length text
    → (at : Span) → IsCutShort text tokens at → (these : List Token) (bad : Option Span) → IsLexed text these bad → (tokens ≡ these) × (Some at ≡ bad)
one_short text walk tokens w none more at x these None l = absurd (no_tokens text walk tokens w none more these l)
one_short text walk tokens w none more at x these (Some b) l = (one_before text at b tokens these x l, some_one at b (one_bad text at b x.0 l.0))

-- What is answered where no token begins, by its parts.
module _ (text rest : List ℕ) (walk : Walk) (tokens : List Token) (w : Walked text walk tokens) (none : NoToken walk.place (drop walk.at text)) (more : walk.at < length text)
    (is_rest : rest ≡ drop walk.at text) (found : List Token) (bad : Option Span) (is_found : found ≡ tokens) (is_bad_there : bad ≡ Some (span_of_first walk.at rest)) where
  there : Some (span_of_first walk.at (drop walk.at text)) ≡ bad
  there = sym (is_bad_there ∙ ap (λ l. Some (span_of_first walk.at l)) is_rest)

  pub short_lexed : IsLexed text found bad
  short_lexed = subst (λ l. IsLexed text l bad) (sym is_found) (subst (IsLexed text tokens) there (cut_short text walk tokens w none more))

  pub only_short : (these : List Token) (other : Option Span) → IsLexed text these other → (found ≡ these) × (bad ≡ other)
  only_short these other l =
      let one = one_short text walk tokens w none more (span_of_first walk.at (drop walk.at text)) (cut_short text walk tokens w none more) these other l in
      (is_found ∙ one.0, sym there ∙ one.1)

-- Where the answer has no place without a token, its tokens are the text's, and no place is one.
module _ (text : List ℕ) (tokens : List Token) (bad : Option Span) (one : (these : List Token) (other : Option Span) → IsLexed text these other → (tokens ≡ these) × (bad ≡ other)) where
  pub only_tokens : (these : List Token) → AreTokens text these → tokens ≡ these
  only_tokens these t = (one these None t).0

  pub not_bad : bad ≡ None → (this : Span) → IsBad text this → ⊥
  not_bad e this b = clash this (sym e ∙ (one (tokens_of start b.pieces) (Some this) (b, refl)).1)
    where
      clash : (at : Span) → ◌≡◌ {A = Option Span} None (Some at) → ⊥
      clash at h = cc

  pub not_tokens : (at : Span) → bad ≡ Some at → (these : List Token) → AreTokens text these → ⊥
  not_tokens at e these t = clash at (sym e ∙ (one these None t).1)
    where
      clash : (at : Span) → ◌≡◌ {A = Option Span} (Some at) None → ⊥
      clash at h = cc

  pub only_bad : (at : Span) → bad ≡ Some at → (this : Span) → IsBad text this → at ≡ this
  only_bad at e this b = same at this (sym e ∙ (one (tokens_of start b.pieces) (Some this) (b, refl)).1)
    where
      same : (a b : Span) → Some a ≡ Some b → a ≡ b
      same a b h = cc

-- ---- a turn of the loop, by what each step of it gave

module _ (text rest : List ℕ) (u : IsUtf8 text) (walk : Walk) (tokens : List Token) (w : Walked text walk tokens) (o : Option Found) (is_rest : rest ≡ drop walk.at text)
    (is_front : o ≡ front_at walk.place rest) where
  left_utf8 : IsUtf8 (drop walk.at text)
  left_utf8 = IsUtf8-drop text walk.at u w.boundary

  front_here : o ≡ front_at walk.place (drop walk.at text)
  front_here = is_front ∙ ap (front_at walk.place) is_rest

  pub run_cut : (f : Found) → o ≡ Some f → IsCharBoundary rest f.len
  run_cut f s = subst (λ l. IsCharBoundary l f.len) (sym is_rest) (front_longest walk.place (drop walk.at text) f left_utf8 (sym s ∙ front_here)).cut

  pub none_found : o ≡ None → NoToken walk.place (drop walk.at text)
  none_found n = no_token_none walk.place (drop walk.at text) left_utf8 (sym n ∙ front_here)

  found_as : (f : Found) (r : Reading) → o ≡ Some f → f.reading ≡ r → Some (record { reading = r; len = f.len }) ≡ front_at walk.place (drop walk.at text)
  found_as f r s e = ap (λ (q : Reading). Some (record { reading = q; len = f.len })) (sym e) ∙ sym s ∙ front_here

  pub refused_found : (f : Found) → o ≡ Some f → f.reading ≡ is.Refused → NoToken walk.place (drop walk.at text)
  refused_found f s e = no_token_refused walk.place (drop walk.at text) f.len left_utf8 (found_as f is.Refused s e)

  module _ (run : List ℕ) (after : Walk) (f : Found) (p : Piece) (is_some : o ≡ Some f) (is_reading : f.reading ≡ reading_of p) (is_run : run ≡ slice_range rest 0 f.len)
      (is_bytes : bytes_of p ≡ run) (is_after : after ≡ past walk p) where
    bytes_here : bytes_of p ≡ take f.len (drop walk.at text)
    bytes_here = let all : f.len - 0 ≡ f.len = omega arith in is_bytes ∙ is_run ∙ ap (λ n. take n rest) all ∙ ap (take f.len) is_rest

    pub goes_on : (next : List Token) → next ≡ tokens ++ tokens_of walk (p ∷ []) → Walked text after next
    goes_on next e = subst (λ (v : Walk). Walked text v next) (sym is_after)
        (subst (Walked text (past walk p)) (sym e) (walks text u walk tokens w p f.len (found_as f (reading_of p) is_some is_reading) bytes_here))

    pub nearer : length text - after.at < length text - walk.at
    nearer =
        let l = front_longest walk.place (drop walk.at text) (record { reading = reading_of p; len = f.len }) left_utf8 (found_as f (reading_of p) is_some is_reading) in
        let some = l.some in
        let within = l.within in
        let left = length-drop walk.at text in
        let size = ap length bytes_here in
        let taken = length-take f.len (drop walk.at text) in
        let at : after.at ≡ walk.at + length (bytes_of p) = ap (λ (v : Walk). v.at) is_after ∙ past_at walk p in
        omega arith
