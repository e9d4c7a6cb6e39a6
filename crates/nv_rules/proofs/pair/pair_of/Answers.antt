use Rattle.nv_rules.specs.Pair.{pair_words}
use Rattle.nv_rules.proofs.Laying.{put_mid-after}
use Rattle.nv_rules.proofs.pair.pair_of.Goals as goal

pub returns : goal.returns
unfolding pair_words
returns c =
    rw (
      put_mid-after 16 16 _ _ _ c.copy_from_slice.ensures.len,
      c.copy_from_slice.ensures.after,
      c.copy_from_slice-2.ensures.after,
      c.call_words.ensures,
      c.call_words-2.ensures,
      c.count_word.ensures,
      c.count_word-2.ensures,
    )
