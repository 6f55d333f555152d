use Rattle.album_tests_views.proofs.audits.taken.Given as goal

-- the four ledgers that were opened here
abbrev pub ghosts-taken_in : goal.ghosts-taken_in
ghosts-taken_in a = record {
  audit_ok = a.blanks.audit_ok;
  audit_failed = a.blanks.audit_failed;
  alarm_ok = a.blanks.alarm_ok;
  alarm_failed = a.blanks.alarm_failed;
}
