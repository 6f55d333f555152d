use Rattle.album_writer.proofs.Basing.{on-bases, plain}
use Rattle.album_writer.proofs.Viewing.{shown-or-new}
use Rattle.album_writer.proofs.laws.checked_writes_name_their_bases.Goals as goal

pub returns-clause-checked : goal.returns-clause-checked
returns-clause-checked c = on-bases

pub returns-clause-plain : goal.returns-clause-plain
returns-clause-plain c = plain

pub returns-clause-shown : goal.returns-clause-shown
returns-clause-shown c = λ writing item. shown-or-new writing.permit writing.stamp item
