use Rattle.std.proofs.Common.{arith}
use Rattle.sig_rules.proofs.PlaceLemmas.{put_next}
use Rattle.sig_rules.proofs.places.Places.of.Goals as goal

pub loop-name-preserved : goal.loop-name-preserved
loop-name-preserved c =
    let put = rw (c.in_ok-copy_texts.ensures, c.as_slice.ensures) at c.in_ok-insert.ensures.keys in
    put_next c.args.names.now c.loop-name.name-index c.name-item.result c.loop-name.by_words.keys _ c.requires.rising (omega arith) c.name-item.is c.loop-name.invariant put
