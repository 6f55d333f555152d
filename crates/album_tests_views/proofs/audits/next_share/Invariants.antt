use Rattle.album_tests_views.proofs.audits.next_share.Given as goal

-- the four ledgers that were opened here
abbrev pub ghosts-share_after : goal.ghosts-share_after
ghosts-share_after a = record {
  audit_ok = a.blanks.audit_ok;
  audit_failed = a.blanks.audit_failed;
  alarm_ok = a.blanks.alarm_ok;
  alarm_failed = a.blanks.alarm_failed;
}
