-- What the rounds show is the match: its table, its words, its number of moves.
use Rattle.std.proofs.Common.{◌∙◌}
use Rattle.rules.specs.Phases.{phase}
use Rattle.matching.specs.Transfer.{shows_writable, shows-words, shows_moves}
use Rattle.matching.proofs.Phases.transfer.Goals as goal

pub write_words-requires : goal.write_words-requires
write_words-requires c =
    rw c.requires.words_len (shows_writable c.requires.ready.orderly _ c.pick-picked.ensures.picked.shows)

pub returns-clause-transferred : goal.returns-clause-transferred
unfolding phase
returns-clause-transferred c =
    let o = c.requires.ready.orderly in
    let s = c.pick-picked.ensures.picked.shows in
    let w = c.write_words.ensures in
    record {
      words = s.table;
      queues = c.pick-picked.ensures.picked.queues;
      matched = shows-words o _ s _ (w.words_len_unchanged ∙ c.requires.words_len) w.written;
      moved = c.len.ensures ∙ shows_moves o _ s;
    }
