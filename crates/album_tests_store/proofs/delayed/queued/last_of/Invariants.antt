use denote.Text.{Utf8}
use denote.Shadow.{shadow}
use Rattle.album_tests_store.proofs.delayed.queued.last_of.Given as goal

-- the title that is found so far is text
abbrev pub invariant-loop-title : goal.invariant-loop-title
invariant-loop-title l = shadow (Utf8 l.shown)
