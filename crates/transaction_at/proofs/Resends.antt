-- Something is sent again where one of two parts sends again.
use Rattle.std.proofs.Common.{List, [], ◌∷◌, ◌++◌, ◌≡◌, refl, ◌||◌}
use Rattle.at_base.specs.declared.outs.Post.{Post}
use Rattle.at_model.specs.Due.{is_some_post}

pub some_of_both : (first second : List Post) → is_some_post (first ++ second) ≡ (is_some_post first || is_some_post second)
some_of_both [] second = refl
some_of_both (p ∷ ps) second = refl
