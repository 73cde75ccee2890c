-- What is so at a moment of a pool's life: at a history of it, the latest entry first, or of the book that stands there.
use Rattle.std.specs.Prelude.{◌≡◌, List, length}
use Rattle.tp_types.specs.declared.configs.Config.{Config}
use Rattle.tp_record.specs.declared.entries.Entry.{Entry}
use Rattle.tp_record.specs.State.{State, state}
use Rattle.tp_record.specs.Step.{Legal}
use Rattle.tp_book.specs.BookView.{BookView, StandsThere, config, released_of}
use Rattle.tp_book.specs.PassView.{PassView}

-- this history is legal in these settings, and its state is such
pub record AtFront (c : Config) (history : List Entry) (F : State → Type 0) : Type 0 where
  pub legal : Legal c history
  pub holds : F (state c history)

-- at some history of a pool with these settings it is so, where a call has no pass to say at which
pub record AtSome (c : Config) (F : State → Type 0) : Type 0 where
  pub history : List Entry
  pub is : AtFront c history F

-- the book of a pool with these settings, while no step is under way: it stands at its history, each entry of which is accounted for
pub record IsBook (P : Type 0) (c : Config) (b : BookView P) : Type 0 where
  pub settings : config b ≡ c
  pub stands : StandsThere b
  pub accounted : b.accounts.total ≡ length b.history

-- at this history the pool's book is such
pub record BookAt (P : Type 0) (c : Config) (history : List Entry) (F : BookView P → Type 0) : Type 0 where
  pub book : BookView P
  pub is : IsBook P c book
  pub at : book.history ≡ history
  pub holds : F book

-- the pool's book is such, as this pass knows it: at its front, with the tasks released that it knows of. A front has no jobs, so
-- what a call says of a job names such a book. With jobs beside the entries each pass and each seat of the word would be of the
-- jobs' type
pub record BookOf (P : Type 0) (c : Config) (p : PassView) (F : BookView P → Type 0) : Type 0 where
  pub book : BookView P
  pub is : IsBook P c book
  pub at : book.history ≡ p.front
  pub released : released_of book ≡ p.released
  pub holds : F book

-- at some history it is such, where a call has no pass to say at which
pub record BookAtSome (P : Type 0) (c : Config) (F : BookView P → Type 0) : Type 0 where
  pub history : List Entry
  pub is : BookAt P c history F
