-- Rulings hold: answers and notes are what the written policy says of the view.
use Rattle.std.specs.Prelude.{◌≡◌, ℕ, Contains}
use Rattle.album_permits.specs.Permits.{PermitState, IsPermit}
use Rattle.album_permits.specs.Serving.{IsServed}
use Rattle.album_permits.specs.declared.findings.Finding.TheVariants as finding
use Rattle.album_permits.specs.declared.serving.Served.{Served}
use Rattle.album_client.specs.Terms.{Terms}
use Rattle.album_client.specs.Steps.{Transaction}
use Rattle.album_world.specs.Past.{PastAnswer, Noted, World}
use Rattle.album_permits.specs.Meaning.{Finds, Notes}
use Rattle.album_world.specs.Viewed.{IsOnView, IsAnsweredOnView}
use Rattle.album_permits.specs.declared.answers.Answer.{Answer}
use Rattle.album_permits.specs.declared.answers.Answer.TheVariants as answer

-- the ask is granted, and this is what the view has for it
pub record IsServedBy (permit : PermitState) (served : Served) : Type 0 where
  pub granted : IsPermit permit
  pub is : IsServed permit served

-- the ask is granted, and the client began its write of this stamp with exactly this permit
pub record IsBegunBy (world : World) (client stamp : ℕ) (permit : PermitState) : Type 0 where
  pub granted : IsPermit permit
  pub by : Transaction
  pub begun : Contains world.past.transactions by
  pub own : by.client ≡ client
  pub at : by.stamp ≡ stamp
  pub with_it : by.permit ≡ permit

-- An answer follows from the view that its client had read last. (An ask that is answered Busy has no view.)
abbrev pub IsRuledBy : Terms → World → PastAnswer → Answer → Type 0
IsRuledBy terms world given (answer.Served served) = IsAnsweredOnView terms world given (λ case. IsServedBy case served)
IsRuledBy terms world given (answer.Denied reasons) =
    IsAnsweredOnView terms world given (λ case. Finds case (finding.Denied reasons))
IsRuledBy terms world given (answer.Missing object) =
    IsAnsweredOnView terms world given (λ case. Finds case (finding.Missing object))
IsRuledBy terms world given (answer.Busy why) = Unit {0}
IsRuledBy terms world given (answer.Committed stamp) =
    IsAnsweredOnView terms world given (IsBegunBy world given.client stamp)
IsRuledBy terms world given (answer.Aborted stamp) =
    IsAnsweredOnView terms world given (IsBegunBy world given.client stamp)
IsRuledBy terms world given (answer.Unsettled stamp why) =
    IsAnsweredOnView terms world given (IsBegunBy world given.client stamp)
IsRuledBy terms world given (answer.Refused why) = IsAnsweredOnView terms world given IsPermit

-- the past has the notes for the view of the answer
pub record HasNotes (world : World) (given : PastAnswer) : Type 0 where
  pub noted : Noted
  pub kept : Contains world.past.noted noted
  pub own : noted.client ≡ given.client
  pub same : noted.last ≡ given.last

-- each answer that rests on a view has notes
abbrev pub IsNotedFor : World → PastAnswer → Answer → Type 0
IsNotedFor world given (answer.Served served) = HasNotes world given
IsNotedFor world given (answer.Denied reasons) = HasNotes world given
IsNotedFor world given (answer.Missing object) = HasNotes world given
IsNotedFor world given (answer.Busy why) = Unit {0}
IsNotedFor world given (answer.Committed stamp) = HasNotes world given
IsNotedFor world given (answer.Aborted stamp) = HasNotes world given
IsNotedFor world given (answer.Unsettled stamp why) = HasNotes world given
IsNotedFor world given (answer.Refused why) = HasNotes world given

-- Each answer that was ever given follows from the ruling on its view, whose notes are in the past (there may be none).
-- All notes that were ever made are those of the ruling on a view.
pub record RulingsHold (terms : Terms) (world : World) : Type 0 where
  pub answers : (given : PastAnswer) → Contains world.past.answers given → IsRuledBy terms world given given.answer
  pub noted : (given : PastAnswer) → Contains world.past.answers given → IsNotedFor world given given.answer
  pub notes :
      (noted : Noted) → Contains world.past.noted noted
      → IsOnView terms world noted.client noted.last (λ case. Notes case noted.notes)
