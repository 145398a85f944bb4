use Rattle.std.proofs.Common.{◌≤◌, ◌<◌, length, IfSome, sym, subst}
use Rattle.ruby_lexer.specs.Signs as spec
use Rattle.ruby_lexer.proofs.Found as found
use Rattle.ruby_lexer.proofs.signs.sign_here.Goals as goal

-- the sign lies in the text
pub returns-clause-within : goal.returns-clause-within
returns-clause-within c = subst (λ sign. IfSome sign (λ f. (0 < f.len) × (f.len ≤ length c.args.text.now))) (sym c.longest_sign.ensures) (found.sign_within c.args.text.now)

-- the sign is as long as it has to be
pub returns-clause-long : goal.returns-clause-long
returns-clause-long c = subst (λ sign. IfSome sign (λ f. spec.least_len f.meaning ≤ f.len)) (sym c.longest_sign.ensures) (found.sign_long c.args.text.now)
