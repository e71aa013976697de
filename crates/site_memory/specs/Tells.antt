-- What a machine in memory tells: its files as they were at its last opening, and its calls since, are all of it.
use Rattle.std.specs.Prelude.{ℕ, List, Some}
use Rattle.site_model.specs.Told.{Told, Made, Files, Link, IsPrefix}
use Rattle.site_model.specs.Site.{Counts}
use Rattle.site_memory.specs.declared.range.Which.TheVariants.{First, Second}
use Rattle.site_memory.specs.Disk.{disk, Image}

abbrev pub reads : Files → List Made → Files
reads opening log = record { first = (disk First opening log).seen; second = (disk Second opening log).seen }

abbrev pub tells : Files → List Made → Link → ℕ → Counts → Told
tells opening log link clock counts =
    record {
      files = Some (reads opening log);
      images = Image opening log;
      calls = Some log;
      past = λ l c. IsPrefix l log × Image opening l c;
      link = Some link;
      clock = Some clock;
      counts = counts;
    }
