use Rattle.std.proofs.Common.{◌∷◌, []}
use Rattle.ruby_grammar.specs.declared.tree.Tree.TheVariants as tree
use Rattle.ruby_grammar.proofs.Soundness.{still_sound, grown_sound}
use Rattle.ruby_grammar.proofs.Reading.{no_memory}
use Rattle.ruby_grammar.proofs.Trails.{goes_named, named_row}
use Rattle.ruby_grammar.proofs.store.Store.label.Goals as goal

pub returns-in-Ok-clause-sound : goal.returns-in-Ok-clause-sound
returns-in-Ok-clause-sound c = λ rules given lists r ts begun there kept same goes. still_sound rules given c.args.self.now.forest c.node.new.self c.args.self.now.memo c.args.self.now.trail.row c.back_to.new.self.row c.node.ensures.extends
    (named_row c.args.name c.args.place c.args.next (λ behind ts. tree.Node c.args.name c.args.place behind ts ∷ []) lists c.args.self.now.forest c.node.new.self r ts begun c.args.self.now.trail c.back_to.new.self c.args.base c.in-Ok.row c.in-Ok.ensures.made c.back_to.ensures kept same goes there)

pub returns-in-Ok-clause-goes : goal.returns-in-Ok-clause-goes
returns-in-Ok-clause-goes c = λ lists r ts begun. goes_named c.args.name c.args.place c.args.next (λ behind ts. tree.Node c.args.name c.args.place behind ts ∷ []) lists c.args.self.now.forest c.node.new.self r ts begun c.args.self.now.trail c.back_to.new.self c.args.base c.in-Ok.row c.in-Ok.ensures.made c.back_to.ensures

pub returns-in-Err-clause-sound : goal.returns-in-Err-clause-sound
returns-in-Err-clause-sound c = λ rules given lists r ts begun there kept same goes. grown_sound rules given c.args.self.now.forest c.node.new.self c.args.self.now.memo c.args.self.now.trail.row c.node.ensures.extends

pub returns-in-Err-clause-goes : goal.returns-in-Err-clause-goes
returns-in-Err-clause-goes c = λ lists r ts begun kept same goes. no_memory _ _ lists _ begun _
