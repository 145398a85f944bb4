use Rattle.std.proofs.Common.{◌++◌}
use Rattle.sig_rules.proofs.PlaceLemmas.{found_at, found_none}
use Rattle.sig_rules.proofs.places.Places.find.Goals as goal

pub returns-clause-some : goal.returns-clause-some
returns-clause-some c =
    rw (← c.self.view_is) (found_at c.self.inside.by_words.keys (c.args.front.now ++ c.args.back.now) c.get_index_of.result c.get_index_of.ensures.index)

pub returns-clause-none : goal.returns-clause-none
returns-clause-none c =
    rw (← c.self.view_is) (found_none c.self.inside.by_words.keys (c.args.front.now ++ c.args.back.now) c.get_index_of.result c.get_index_of.ensures.found)
