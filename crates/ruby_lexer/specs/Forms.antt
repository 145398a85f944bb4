-- The forms of Ruby that are refused, by the names that are printed.
use Rattle.std.specs.Prelude.{ℕ, List, codes}
use Rattle.ruby_lexer.specs.declared.refusal.Form.{Form}
use Rattle.ruby_lexer.specs.declared.refusal.Form.TheVariants as form

-- the printed name of a form
abbrev pub form_name : Form → List ℕ
form_name form.Float = codes "float"
form_name form.Rational = codes "rational"
form_name form.Imaginary = codes "imaginary"
form_name form.WideInteger = codes "wide integer"
form_name form.BeginBlock = codes "BEGIN"
form_name form.EndBlock = codes "END"
form_name form.EndOfScript = codes "__END__"
form_name form.Line = codes "__LINE__"
form_name form.Encoding = codes "__ENCODING__"
form_name form.For = codes "for"
form_name form.Redo = codes "redo"
form_name form.Retry = codes "retry"
form_name form.Undef = codes "undef"
form_name form.Pattern = codes "pattern"
form_name form.NumberedParameter = codes "numbered parameter"
form_name form.Forwarding = codes "forwarding"
form_name form.FlipFlop = codes "flip-flop"
form_name form.Using = codes "using"
form_name form.Refine = codes "refine"
form_name form.DefineMethod = codes "define_method"
form_name form.Eval = codes "eval"
form_name form.InstanceEval = codes "instance_eval"
form_name form.ClassEval = codes "class_eval"
form_name form.ModuleEval = codes "module_eval"
form_name form.MethodMissing = codes "method_missing"
