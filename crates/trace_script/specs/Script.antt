-- The script of a tracee: the program that it loads, and what it does, step by step (execve(2), fork(2), clone(2),
-- exit(2), signal(7)). Plain data: the program's own steps hold vectors and pages, and are read as these.
use Rattle.std.specs.Prelude.{ℕ, Bool, List, Option}
use Rattle.trace_pages.specs.FlatMemory.{FlatMemory}

-- a program as execve(2) loads it
pub record Image : Type 0 where
  pub memory : FlatMemory
  pub rip : ℕ
  pub rsp : ℕ

-- bytes that a call writes before it returns
pub record Fill : Type 0 where
  pub address : ℕ
  pub bytes : List ℕ

-- the answer of a call is the word that it leaves in rax
pub data Step : Type 0 where
  Call : (nr : ℕ) → (arguments : List ℕ) → (answer : ℕ) → (fill : Option Fill) → Step
  Fork : (child : ℕ) → Step
  Thread : (child : ℕ) → Step
  Exec : (path : ℕ) → (image : Image) → Step
  Signal : (signal : ℕ) → (deadly : Bool) → Step
  Exit : (status : ℕ) → Step

pub record Script : Type 0 where
  pub image : Image
  pub steps : List Step
