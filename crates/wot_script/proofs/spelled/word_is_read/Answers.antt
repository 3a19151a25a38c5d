use Rattle.wot_script.proofs.WordLines.{word_line, word_reads}
use Rattle.wot_script.proofs.spelled.word_is_read.Goals as goal

pub returns : goal.returns
returns c = record {
  read = word_reads c.args.command.now c.requires;
  line = word_line c.args.command.now c.requires;
}
