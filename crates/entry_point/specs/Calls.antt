-- What becomes of a job that is handed words, a source, a sink, one for errors, files and a site.
use Rattle.std.specs.Prelude.{ℕ, List, ◌≡◌, ◌⊎◌}
use Rattle.std.specs.Fn.{Once}
use Rattle.std.specs.declared.io.ErrorKind.{ErrorKind}
use Rattle.std.specs.declared.io.ErrorKind.TheVariants.{OutOfMemory}
use denote.Ref.{Bor, MutBor}

-- The status where the process's words can't be had: there is no memory for them, or one of them isn't UTF-8.
abbrev pub status_without : ErrorKind → ℕ
status_without OutOfMemory = 9
status_without _ = 2

module _ {F A W S K E L H : Type 0} (job : Once F (A × (Bor W × (MutBor S × (MutBor K × (MutBor E × (MutBor L × (MutBor H × Unit {0}))))))) (ℕ × (MutBor S × (MutBor K × (MutBor E × (MutBor L × (MutBor H × Unit {0}))))))) (bytes_of : W → List (List ℕ)) where
  -- The job f was called on these words, with the source, the sink, that of errors, the files and the site: by what it ensures it may
  -- give this status, and leave them so.
  pub record Called (f : F) (alloc : A) (words : List (List ℕ)) (status : ℕ) (source source' : S) (sink sink' : K) (errors errors' : E) (files files' : L) (site site' : H) : Type 0 where
    pub lent_words : Bor W
    pub lent_source : MutBor S
    pub lent_sink : MutBor K
    pub lent_errors : MutBor E
    pub lent_files : MutBor L
    pub lent_site : MutBor H
    pub left_source : MutBor S
    pub left_sink : MutBor K
    pub left_errors : MutBor E
    pub left_files : MutBor L
    pub left_site : MutBor H
    pub ensured : job.post f (alloc, (lent_words, (lent_source, (lent_sink, (lent_errors, (lent_files, (lent_site, tt))))))) (status, (left_source, (left_sink, (left_errors, (left_files, (left_site, tt))))))
    pub of_words : bytes_of lent_words.now ≡ words
    pub of_source : lent_source.now ≡ source
    pub of_sink : lent_sink.now ≡ sink
    pub of_errors : lent_errors.now ≡ errors
    pub of_files : lent_files.now ≡ files
    pub of_site : lent_site.now ≡ site
    pub leaves_source : left_source.now ≡ source'
    pub leaves_sink : left_sink.now ≡ sink'
    pub leaves_errors : left_errors.now ≡ errors'
    pub leaves_files : left_files.now ≡ files'
    pub leaves_site : left_site.now ≡ site'

  -- It was called so; or there was no memory for the words, and all is as it was.
  abbrev pub CalledOrNot : F → A → List (List ℕ) → ℕ → S → S → K → K → E → E → L → L → H → H → Type 0
  CalledOrNot f alloc words status source source' sink sink' errors errors' files files' site site' =
      Called f alloc words status source source' sink sink' errors errors' files files' site site' ⊎ ((status ≡ 9) × (source' ≡ source) × (sink' ≡ sink) × (errors' ≡ errors) × (files' ≡ files) × (site' ≡ site))
