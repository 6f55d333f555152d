use Rattle.album_tests_views.proofs.audits.totals.Given as goal

-- the four ledgers that were opened here
abbrev pub ghosts-totals_in : goal.ghosts-totals_in
ghosts-totals_in a = record {
  audit_ok = a.blanks.audit_ok;
  audit_failed = a.blanks.audit_failed;
  alarm_ok = a.blanks.alarm_ok;
  alarm_failed = a.blanks.alarm_failed;
}
