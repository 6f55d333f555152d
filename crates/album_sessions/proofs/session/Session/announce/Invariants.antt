use Rattle.album_grounds.specs.Writes.{announcement_of}
use Rattle.album_sessions.proofs.session.Session.announce.Given as goal

abbrev pub ghosts-announce_write : goal.ghosts-announce_write
ghosts-announce_write g a = record {
  stamp = (announcement_of a._writing.now).0;
  announced = (announcement_of a._writing.now).1;
}
