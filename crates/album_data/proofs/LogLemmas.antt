-- What a log has kept it keeps, whatever becomes of the next group; and once that is appended, it keeps its lines too.
use Rattle.std.proofs.Common.{◌≡◌, ℕ, Bool, true, false, IsTrue, List, ◌++◌, refl, sym, ◌∙◌, subst}
use Rattle.album_keepers.specs.declared.log_entries.LogEntry.{LogEntry}
use Rattle.album_log.specs.Logs.{LogView, Outcomes, LeavesKept}
use Rattle.album_log.specs.Texts.{IsWholeText, whole_text}
use Rattle.album_data.specs.Logs.{Keeps, Adds}
use Rattle.album_data.specs.Texts.{entry_text, HasLine}
use Rattle.album_data.proofs.LineLemmas.{line_more, line_behind}

module _ {D : Type 0} (may_leave : D → Outcomes) (old new : LogView D) (group : List ℕ) (mixing : new.is_mixing ≡ old.is_mixing) where
  -- the log was open or closed
  pub kept_still : (seen : List ℕ) → may_leave old.disk seen
      → (old.is_open ≡ false → new ≡ old)
      → (IsTrue old.is_open → IsTrue old.is_mixing → LeavesKept old.text group (may_leave new.disk))
      → (IsTrue old.is_open → (c : List ℕ) → may_leave old.disk c → whole_text c ≡ old.text)
      → (e : LogEntry) → Keeps may_leave old e → Keeps may_leave new e
  kept_still seen stays still leaves only e keeps = go old.is_open refl
    where
      go : (b : Bool) → old.is_open ≡ b → Keeps may_leave new e
      go true is mixes c left =
          let was : IsTrue old.is_mixing = subst IsTrue mixing mixes in
          let had : HasLine old.text (entry_text e) =
          subst (λ (t : List ℕ). HasLine t (entry_text e)) (only is seen stays) (keeps was seen stays) in
          let kept = leaves is was c left in
          subst (λ (t : List ℕ). HasLine t (entry_text e)) (sym kept.follows) (line_more old.text kept.part (entry_text e) had)
      go false is mixes c left =
          let same : new ≡ old = still is in
          keeps (subst IsTrue mixing mixes) c (subst (λ (l : LogView D). may_leave l.disk c) same left)

  -- the group was appended
  pub added_kept : new.text ≡ old.text ++ group
      → ((c : List ℕ) → may_leave new.disk c → whole_text c ≡ new.text)
      → IsWholeText old.text
      → (e : LogEntry) → Adds group e → Keeps may_leave new e
  added_kept text durable whole e adds mixes c left =
      subst (λ (t : List ℕ). HasLine t (entry_text e)) (sym (durable c left ∙ text))
      (line_behind old.text group (entry_text e) whole adds)
