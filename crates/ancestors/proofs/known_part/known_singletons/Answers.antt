use Rattle.std.proofs.Common.{refl}
use Rattle.ancestors.proofs.KnownLemmas.{count_of, front_of, of_singletons}
use Rattle.ancestors.proofs.known_part.known_singletons.Goals as goal

pub returns-then-not-line : goal.returns-then-not-line
returns-then-not-line g c =
    let all = g.N.Names.all c.args.names.now in
    let line = c.in-Some-known_line.line.now in
    let count = count_of all c.args.end c.in-Some.count c.in-Some.is c.requires.end in
    let known = of_singletons all (g.K.Known.lines c.args.known.now) c.args.applied.now line c.in-Some.count c.requires.known c.in-Some-known_line.ensures c.if-not-line.true (c.if-is_own_class.ensures.class refl) (c.if-is_own_class.ensures.own refl) count in
    front_of all c.args.applied.now line c.in-Some.count c.as_slice.result.now _ c.as_slice.ensures known c.all_but.ensures
