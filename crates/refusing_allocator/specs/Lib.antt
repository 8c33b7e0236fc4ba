pub mod RefusingAllocator
