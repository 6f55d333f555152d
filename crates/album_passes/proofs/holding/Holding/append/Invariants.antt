use Rattle.album_passes.proofs.holding.Holding.append.Given as goal

abbrev pub ghosts-append_as : goal.ghosts-append_as
ghosts-append_as a = record { mark = a._mark.now }
