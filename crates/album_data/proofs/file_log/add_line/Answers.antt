use Rattle.album_data.proofs.LineLemmas.{line_if}
use Rattle.album_data.proofs.file_log.add_line.Goals as goal

pub returns-clause-others : goal.returns-clause-others
returns-clause-others c other h =
    line_if _ c.args.text.now.items c.extend_from_slice.new.self.items c.args.line.now other c.extend_from_slice.ensures.items h
