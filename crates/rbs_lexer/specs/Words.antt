-- Words, and of what kind each is.
use Rattle.std.specs.Prelude.{ℕ, ◌==◌, ◌-◌, nat_lt, Bool, true, not, ◌&&◌, ◌||◌, if◌then◌else◌, List, [], ◌∷◌, length, take, slice_index, Option, Some, None, codes, chars, bytes_eq}
use Rattle.std.specs.Str.{is_utf8}
use Rattle.std.specs.Char.{is_ascii_alphanumeric}
use Rattle.unicode_ident.specs.Ident.{is_xid_continue}
use Rattle.rbs_lexer.specs.declared.kind.Kind.{Kind}
use Rattle.rbs_lexer.specs.declared.kind.Kind.TheVariants as k
use Rattle.rbs_lexer.specs.Bytes.{is_upper, is_nil}

-- letters, digits, `_`, and characters past ASCII that may continue an identifier
abbrev pub is_word_character : ℕ → Bool
is_word_character c = if nat_lt c 128 then is_ascii_alphanumeric c || c == 95 else is_xid_continue c

-- whether all these characters are of words
abbrev pub all_word : List ℕ → Bool
all_word [] = true
all_word (c ∷ cs) = is_word_character c && all_word cs

-- a word: some characters of words, whole ones
unfoldable pub is_word : List ℕ → Bool
is_word run = not (is_nil run) && (is_utf8 run && all_word (chars run))

-- a mark that a word may have at its end; `=` only where it is taken
abbrev pub is_mark : Bool → ℕ → Bool
is_mark equals b = b == 63 || b == 33 || (b == 61 && equals)

-- a word with a mark
unfoldable pub is_marked : Bool → List ℕ → Bool
is_marked equals run = is_mark equals (slice_index run (length run - 1)) && is_word (take (length run - 1) run)

-- the words that the grammar has
abbrev pub keywords : List (List ℕ × Kind)
keywords = (codes "alias", k.Alias) ∷ (codes "as", k.As) ∷ (codes "attr_accessor", k.AttrAccessor) ∷ (codes "attr_reader", k.AttrReader)
    ∷ (codes "attr_writer", k.AttrWriter) ∷ (codes "bool", k.Bool) ∷ (codes "bot", k.Bot) ∷ (codes "class", k.Class) ∷ (codes "def", k.Def)
    ∷ (codes "end", k.End) ∷ (codes "extend", k.Extend) ∷ (codes "false", k.False) ∷ (codes "in", k.In) ∷ (codes "include", k.Include)
    ∷ (codes "instance", k.Instance) ∷ (codes "interface", k.Interface) ∷ (codes "module", k.Module) ∷ (codes "nil", k.Nil) ∷ (codes "out", k.Out)
    ∷ (codes "prepend", k.Prepend) ∷ (codes "private", k.Private) ∷ (codes "public", k.Public) ∷ (codes "self", k.SelfWord)
    ∷ (codes "singleton", k.Singleton) ∷ (codes "top", k.Top) ∷ (codes "true", k.True) ∷ (codes "type", k.Type) ∷ (codes "unchecked", k.Unchecked)
    ∷ (codes "untyped", k.Untyped) ∷ (codes "use", k.Use) ∷ (codes "void", k.Void) ∷ []

-- what the table has for these bytes
abbrev pub entry : List ℕ → List (List ℕ × Kind) → Option Kind
entry run [] = None
entry run (e ∷ es) = if bytes_eq run e.0 then Some e.1 else entry run es

-- the kind of a word that is no keyword
abbrev pub name_kind : List ℕ → Kind
name_kind run = if is_upper (slice_index run 0) then k.Constant
    else (if slice_index run 0 == 95 && is_upper (slice_index run 1) then k.InterfaceName else k.Word)

-- the kind that the table has, or else the kind of a name
abbrev pub kind_or_name : List ℕ → Option Kind → Kind
kind_or_name run None = name_kind run
kind_or_name run (Some kind) = kind

-- the kind of a word
unfoldable pub word_kind : List ℕ → Kind
word_kind run = kind_or_name run (entry run keywords)
