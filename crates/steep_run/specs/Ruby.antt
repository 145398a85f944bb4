-- What is found in a Ruby text: where it is refused, or, of a small program, the calls of methods that objects lack. A program is small
-- where each statement calls a method on a new object of a class with integers alone, as `Foo.new.bar(1, 2)`.
use Rattle.std.specs.Prelude.{◌≡◌, ℕ, ℤ, pos, negsuc, nat_lt, Bool, false, not, ◌&&◌, List, [], ◌∷◌, ◌++◌, length, codes, Option, None, Some, Result, Ok, Err, if◌then◌else◌}
use Rattle.std.specs.List.{list_all}
use Rattle.std.specs.Option.{option_and_then, option_map}
use Rattle.diagnostics.specs.declared.code.Code.TheVariants.{NoMethod, RubySyntaxError, UnsupportedSyntax}
use Rattle.diagnostics.specs.declared.diagnostic.Diagnostic.{Diagnostic}
use Rattle.ruby_lexer.specs.Forms.{form_name}
use Rattle.ruby_lexer.specs.declared.refusal.Form.{Form}
use Rattle.ruby_lexer.specs.declared.refusal.RubyAt.{RubyAt}
use Rattle.ruby_lexer.specs.declared.refusal.RubyAt.TheVariants as at
use Rattle.ruby_parser.specs.Programs.{program_of}
use Rattle.ruby_tree.specs.declared.names.ConstPath.{ConstPath}
use Rattle.ruby_tree.specs.declared.names.MethodName.{MethodName}
use Rattle.ruby_tree.specs.declared.nodes.Node.{Node}
use Rattle.ruby_tree.specs.declared.nodes.NodeKind.{NodeKind}
use Rattle.ruby_tree.specs.declared.nodes.NodeKind.TheOpen.{NodeKind-F, Item-F}
use Rattle.ruby_tree.specs.declared.nodes.NodeKind.TheViews.{out-Node, out-NodeKind, out-Item}
use Rattle.ruby_tree.specs.declared.nodes.Program.{Program}
use Rattle.ruby_tree.specs.declared.parts.Arm.{Arm}
use Rattle.ruby_tree.specs.declared.parts.Dot.TheVariants.{Plain}
use Rattle.ruby_tree.specs.declared.parts.Item.{Item}
use Rattle.ruby_tree.specs.declared.parts.Param.{Param}
use Rattle.ruby_tree.specs.declared.parts.Part.{Part}
use Rattle.ruby_tree.specs.declared.parts.Rescue.{Rescue}
use Rattle.ruby_tree.specs.declared.parts.Target.{Target}
use Rattle.ruby_tree.specs.declared.parts.When.{When}
use Rattle.sig_rules.specs.declared.files.Declared.{Declared}
use Rattle.steep_run.specs.Calls.{fits, lacks}
use Rattle.steep_run.specs.Small.{is_nil, lone_word}
use Rattle.steep_run.specs.Words.{begins, same_word, is_lower_byte, is_keyword}
use Rattle.steep_run.specs.declared.ruby.calls.FoundCall.{FoundCall}

-- ---- calls

-- a call: the class's one word, the method's name and where it stands, and how many integers are passed
pub record Call : Type 0 where
  pub class : List ℕ
  pub method : MethodName
  pub numbers : ℕ

abbrev pub call_of : FoundCall → Call
call_of c = record { class = c.class.now; method = c.method.now; numbers = c.numbers }

abbrev pub is_ascii_byte : ℕ → Bool
is_ascii_byte b = nat_lt b 128

-- an ASCII word that begins as no constant does, and no keyword
abbrev pub is_method_name : List ℕ → Bool
is_method_name name = list_all is_ascii_byte name && (begins is_lower_byte name && not (is_keyword name))

-- what a node is
abbrev pub Kind : Type 0
Kind = NodeKind-F NodeKind Item Param Part Target Node Arm Rescue When

abbrev pub kind_of : Node → Kind
kind_of n = out-NodeKind (out-Node n).kind

-- an integer without a sign, of 18 digits at most
abbrev pub is_passed : ℤ → Bool
is_passed (pos n) = nat_lt n 1000000000000000000
is_passed (negsuc n) = false

abbrev pub is_integer_node : Node → Bool
is_integer_node n = in_kind (kind_of n)
  where
    in_kind : Kind → Bool
    in_kind (NodeKind-F.Int value) = is_passed value
    in_kind _ = false

-- whether an argument is such an integer
abbrev pub is_integer : Item → Bool
is_integer i = in_item (out-Item i)
  where
    in_item : Item-F NodeKind Item Param Part Target Node Arm Rescue When → Bool
    in_item (Item-F.Value n) = is_integer_node n
    in_item _ = false

-- the one word of a path, if it is in ASCII
abbrev pub if_ascii : List ℕ → Option (List ℕ)
if_ascii word = if list_all is_ascii_byte word then Some word else None

abbrev pub path_word : ConstPath → Option (List ℕ)
path_word path = if path.absolute then None else option_and_then if_ascii (lone_word path.words)

-- the word of a constant that is one word
abbrev pub class_word : Node → Option (List ℕ)
class_word n = in_kind (kind_of n)
  where
    in_kind : Kind → Option (List ℕ)
    in_kind (NodeKind-F.NodeKind::Const None path) = path_word path
    in_kind _ = None

-- the class of which `new` without arguments is called
abbrev pub new_on : Node → MethodName → List Item → Option (List ℕ)
new_on receiver method args = if same_word method.name (codes "new") && is_nil args then class_word receiver else None

abbrev pub new_of : Node → Option (List ℕ)
new_of n = in_kind (kind_of n)
  where
    in_kind : Kind → Option (List ℕ)
    in_kind (NodeKind-F.Call (Some receiver) Plain method args None) = new_on receiver method args
    in_kind _ = None

abbrev pub call_with : MethodName → List Item → List ℕ → Call
call_with method args class = record { class = class; method = method; numbers = length args }

abbrev pub call_on : Node → MethodName → List Item → Option Call
call_on receiver method args =
    if is_method_name method.name && list_all is_integer args then option_map (call_with method args) (new_of receiver) else None

-- the call that a statement is
abbrev pub call_in : Node → Option Call
call_in n = in_kind (kind_of n)
  where
    in_kind : Kind → Option Call
    in_kind (NodeKind-F.Call (Some receiver) Plain method args None) = call_on receiver method args
    in_kind _ = None

-- ---- faults

unfoldable pub fault_text : List ℕ → List ℕ → List ℕ
fault_text class method = codes "Type `::" ++ (class ++ (codes "` does not have method `" ++ (method ++ codes "`")))

-- the fault at the name of a method that an object lacks; where nothing encloses it, a class's full name is `::` and its word
abbrev pub fault_at : Call → Diagnostic
fault_at c = record { span = c.method.at; code = NoMethod; message = fault_text c.class c.method.name; severity = 1 }

-- the faults of a call, if it can be judged
abbrev pub call_faults : List Declared → Call → Option (List Diagnostic)
call_faults all c =
    if fits all c.class c.method.name c.numbers then Some (if lacks all c.class c.method.name then fault_at c ∷ [] else []) else None

-- those of a statement, if it is such a call
abbrev pub statement_faults : List Declared → Node → Option (List Diagnostic)
statement_faults all n = option_and_then (call_faults all) (call_in n)

-- diagnostics before others, if there are any others
abbrev pub before : List Diagnostic → Option (List Diagnostic) → Option (List Diagnostic)
before front None = None
before front (Some faults) = Some (front ++ faults)

abbrev pub in_a_row : Option (List Diagnostic) → Option (List Diagnostic) → Option (List Diagnostic)
in_a_row None behind = None
in_a_row (Some front) behind = before front behind

-- those of statements in their order, if each is such a call
abbrev pub faults_among : List Declared → List Node → Option (List Diagnostic)
faults_among all [] = Some []
faults_among all (n ∷ ns) = in_a_row (statement_faults all n) (faults_among all ns)

-- those of a program, if it is small over what is declared
abbrev pub program_faults : List Declared → Program → Option (List Diagnostic)
program_faults all p = in_kind (kind_of p.root)
  where
    in_kind : Kind → Option (List Diagnostic)
    in_kind (NodeKind-F.Seq nodes) = faults_among all nodes
    in_kind _ = None

-- ---- texts

-- what is said of a form that is refused
unfoldable pub form_text : Form → List ℕ
form_text form = codes "Syntax is not supported: " ++ form_name form

-- what is said where a text is refused
abbrev pub refusal_at : RubyAt → Option (List Diagnostic)
refusal_at (at.Syntax span) = Some (record { span = span; code = RubySyntaxError; message = codes "Syntax error"; severity = 1 } ∷ [])
refusal_at (at.TooDeep span) = Some (record { span = span; code = RubySyntaxError; message = codes "Nesting is deeper than 128"; severity = 1 } ∷ [])
refusal_at (at.Unsupported span form) = Some (record { span = span; code = UnsupportedSyntax; message = form_text form; severity = 1 } ∷ [])
refusal_at at.NoMemory = None

abbrev pub answer_faults : List Declared → Result Program RubyAt → Option (List Diagnostic)
answer_faults all (Ok program) = program_faults all program
answer_faults all (Err fault) = refusal_at fault

-- The diagnostics of a Ruby text over what is declared: the one where it is refused, or those of its small program. A text with any other
-- program has none, and isn't checked. Want of memory is no text's answer.
unfoldable pub ruby_faults : List Declared → List ℕ → Option (List Diagnostic)
ruby_faults all text = answer_faults all (program_of text)

-- The text has a program, and this isn't small over what is declared.
pub record HasOtherProgram (all : List Declared) (text : List ℕ) : Type 0 where
  pub program : Program
  pub read : program_of text ≡ Ok program
  pub other : program_faults all program ≡ None
