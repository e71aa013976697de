-- The live records of live records are those.
use Rattle.std.proofs.Common.{List, [], ◌∷◌, ◌≡◌, ◌++◌, ◌||◌, Bool, true, false, refl, ◌∙◌, if◌then◌else◌}
use Rattle.std.specs.List.{list_any}
use Rattle.at_base.specs.Numbers.{Numbers}
use Rattle.at_base.specs.declared.epr.Epr.{Epr}
use Rattle.at_base.specs.declared.record.Seated.{Seated}
use Rattle.at_base.specs.declared.record.Record.{Record}
use Rattle.at_base.specs.declared.record.Record.TheVariants as records
use Rattle.at_model.specs.Recovery.{ends_leaf, ends_transaction, is_sub_committed, live}
use Rattle.model_laws.proofs.RecoveryLaws.{none_live, self_id}

-- a promise alone
one_again : (b : Bool) (x : Record) (test : Record → Bool) (rest : List Record) → ((xs : List Record) → live (x ∷ xs) ≡ (if list_any test xs then [] else x ∷ []) ++ live xs)
    → list_any test rest ≡ b → live (live rest) ≡ live rest → live ((if b then [] else x ∷ []) ++ live rest) ≡ (if b then [] else x ∷ []) ++ live rest
one_again true x test rest is e h = h
one_again false x test rest is e h = is (live rest) ∙ (λ i. (if none_live test rest e i then [] else x ∷ []) ++ h i)

abbrev vote : Bool → Bool → Numbers → Epr → List Seated → List Record
vote ended committed i s ss = if ended then [] else records.Voted i s ss ∷ (if committed then records.SubCommitted i ∷ [] else [])

vote_again : (b c : Bool) (i : Numbers) (s : Epr) (ss : List Seated) (rest : List Record) → list_any (ends_transaction i) rest ≡ b → list_any (is_sub_committed i) rest ≡ c
    → live (live rest) ≡ live rest → live (vote b c i s ss ++ live rest) ≡ vote b c i s ss ++ live rest
vote_again true c i s ss rest e f h = h
vote_again false true i s ss rest e f h =
    λ k. (if none_live (ends_transaction i) rest e k then [] else records.Voted i s ss ∷ (if self_id i k || list_any (is_sub_committed i) (live rest) then records.SubCommitted i ∷ [] else [])) ++ h k
vote_again false false i s ss rest e f h =
    λ k. (if none_live (ends_transaction i) rest e k then [] else records.Voted i s ss ∷ (if none_live (is_sub_committed i) rest f k then records.SubCommitted i ∷ [] else [])) ++ h k

pub live_again : (rs : List Record) → live (live rs) ≡ live rs
live_again [] = refl
live_again (records.Start n ∷ rest) = live_again rest
live_again (records.LeafPrepared i c key value ∷ rest) =
    one_again (list_any (ends_leaf i) rest) (records.LeafPrepared i c key value) (ends_leaf i) rest (λ xs. refl) refl (live_again rest)
live_again (records.LeafCommitted i ∷ rest) = live_again rest
live_again (records.LeafAborted i ∷ rest) = live_again rest
live_again (records.Voted i s ss ∷ rest) = vote_again (list_any (ends_transaction i) rest) (list_any (is_sub_committed i) rest) i s ss rest refl refl (live_again rest)
live_again (records.Decided i [] ∷ rest) = live_again rest
live_again (records.Decided i (s ∷ ss) ∷ rest) =
    one_again (list_any (ends_transaction i) rest) (records.Decided i (s ∷ ss)) (ends_transaction i) rest (λ xs. refl) refl (live_again rest)
live_again (records.SubCommitted i ∷ rest) = live_again rest
live_again (records.Ended i ∷ rest) = live_again rest
live_again (records.Done i ∷ rest) = live_again rest
