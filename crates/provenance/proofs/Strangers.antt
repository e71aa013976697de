-- What is answered where nothing is known: with what is asked of endpoints and texts.
use Rattle.std.specs.Prelude.{ℕ, List, [], Option, Some, None, IfSome}
use Rattle.at_base.specs.declared.epr.Epr.{Epr}
use Rattle.at_base.specs.declared.event.Arrived.{Arrived}
use Rattle.at_base.specs.declared.fault.Fault.TheVariants.{InvalidState, UnknownTransaction}
use Rattle.at_base.specs.declared.message.Message.{Message}
use Rattle.at_base.specs.declared.message.Message.TheVariants as messages
use Rattle.at_base.specs.declared.notice.Notice.{Notice}
use Rattle.at_base.specs.declared.notice.Notice.TheVariants as notices
use Rattle.at_base.specs.declared.target.Target.{Target}
use Rattle.at_tables.specs.Tables.{completion_of}
use Rattle.at_tables.specs.declared.cells.Act.{Act}
use Rattle.at_tables.specs.declared.cells.Act.TheVariants as acts
use Rattle.at_tables.specs.declared.cells.Cell.{Cell}
use Rattle.at_tables.specs.declared.cells.State.TheVariants as states
use Rattle.endpoints.specs.Addresses.{IsWritten}
use Rattle.at_model.specs.Book.{Book}
use Rattle.at_model.specs.Posts.{fault_post, notice_post, stranger_post, to_each}
use Rattle.at_model.specs.Step.{outcome_act, outcome_cell, outcome_plan, stranger_act, stranger_cell, stranger_plan}
use Rattle.provenance.specs.Forms.{ArePosts, Forms, HaveOwn, IsArrived, IsBook}
use Rattle.provenance.proofs.TransactionPosts.{each_has, fault_has, notice_has, stranger_has}
use Rattle.provenance.proofs.Plans.{IsPlan, answered_passes}

says_has : (F : Forms) (base : List ℕ) (own : Target) (from : Option Epr) (n : Notice) → HaveOwn F base → IsWritten own → IfSome from F.endpoint
    → ArePosts F (to_each from (λ to. stranger_post base own to n))
says_has F base own from n o w h = each_has F from (λ to. stranger_post base own to n) h (λ to k. stranger_has F base o own to n w k)

act_has : (F : Forms) (base : List ℕ) (own : Target) (from : Option Epr) (id : Option (List ℕ)) (act : Act) → HaveOwn F base → IsWritten own → IfSome from F.endpoint → IfSome id F.id
    → ArePosts F (stranger_act base own from id act)
act_has F base own from id acts.SendRollback o w h i = says_has F base own from notices.Rollback o w h
act_has F base own from id acts.SendCommitted o w h i = says_has F base own from notices.Committed o w h
act_has F base own from id acts.SendAborted o w h i = says_has F base own from notices.Aborted o w h
act_has F base own from id acts.FaultUnknownTransaction o w h i =
    each_has F from (λ to. fault_post (Some to) id UnknownTransaction) h (λ to k. fault_has F (Some to) id UnknownTransaction k i)
act_has F base own from id other o w h i = tt

cell_has : (F : Forms) (base : List ℕ) (own : Target) (from : Option Epr) (id : Option (List ℕ)) (c : Option Cell) → HaveOwn F base → IsWritten own → IfSome from F.endpoint → IfSome id F.id
    → ArePosts F (stranger_cell base own from id c)
cell_has F base own from id None o w h i = tt
cell_has F base own from id (Some c) o w h i = act_has F base own from id c.act o w h i

pub stranger_passes : (F : Forms) (b : Book) (now : ℕ) (a : Arrived) (table : Notice → Option Cell) (x : Message) → HaveOwn F b.base → IsBook F b → IsArrived F a
    → IsPlan F (stranger_plan b now a table x)
stranger_passes F b now a table (messages.Notice n) o h w = answered_passes F b now _ h (cell_has F b.base a.target a.from a.id (table n) o w.target w.from w.id)
stranger_passes F b now a table other o h w = answered_passes F b now [] h tt

outcome_act_has : (F : Forms) (base : List ℕ) (own : Target) (from : Option Epr) (id : Option (List ℕ)) (act : Act) → HaveOwn F base → IsWritten own → IfSome from F.endpoint
    → IfSome id F.id → ArePosts F (outcome_act base own from id act)
outcome_act_has F base own from id acts.SendCommitted o w h i =
    each_has F from (λ to. notice_post base own to notices.Committed) h (λ to k. notice_has F base o own to notices.Committed w k)
outcome_act_has F base own from id acts.FaultInvalidState o w h i =
    each_has F from (λ to. fault_post (Some to) id InvalidState) h (λ to k. fault_has F (Some to) id InvalidState k i)
outcome_act_has F base own from id other o w h i = tt

outcome_cell_has : (F : Forms) (base : List ℕ) (own : Target) (from : Option Epr) (id : Option (List ℕ)) (c : Option Cell) → HaveOwn F base → IsWritten own → IfSome from F.endpoint
    → IfSome id F.id → ArePosts F (outcome_cell base own from id c)
outcome_cell_has F base own from id None o w h i = tt
outcome_cell_has F base own from id (Some c) o w h i = outcome_act_has F base own from id c.act o w h i

pub outcome_passes : (F : Forms) (b : Book) (now : ℕ) (a : Arrived) (x : Message) → HaveOwn F b.base → IsBook F b → IsArrived F a → IsPlan F (outcome_plan b now a x)
outcome_passes F b now a (messages.Notice n) o h w =
    answered_passes F b now _ h (outcome_cell_has F b.base a.target a.from a.id (completion_of states.Done n) o w.target w.from w.id)
outcome_passes F b now a other o h w = answered_passes F b now [] h tt
